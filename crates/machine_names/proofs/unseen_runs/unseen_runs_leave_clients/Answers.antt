use Rattle.machine_names.proofs.Unseen.{unseen_runs_leave_clients}
use Rattle.machine_names.proofs.unseen_runs.unseen_runs_leave_clients.Goals as goal

pub returns : goal.returns
returns c = unseen_runs_leave_clients
