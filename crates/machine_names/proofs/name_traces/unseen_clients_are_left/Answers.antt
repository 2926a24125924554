use Rattle.machine_names.proofs.Seen.{unseen_clients_are_left, clock_and_settings_are_seen}
use Rattle.machine_names.proofs.name_traces.unseen_clients_are_left.Goals as goal

pub returns-clause-clients : goal.returns-clause-clients
returns-clause-clients c = unseen_clients_are_left

pub returns-clause-clock : goal.returns-clause-clock
returns-clause-clock c = clock_and_settings_are_seen
