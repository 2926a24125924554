use Rattle.laws_machine.proofs.WholeLogs.{states_have_their_logs_files}
use Rattle.laws_machine.proofs.whole_steps.states_have_their_logs_files.Goals as goal

pub returns : goal.returns
returns c = states_have_their_logs_files
