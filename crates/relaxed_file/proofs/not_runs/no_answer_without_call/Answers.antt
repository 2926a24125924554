use Rattle.relaxed_file.proofs.NotRuns.{no_answer_without_call}
use Rattle.relaxed_file.proofs.not_runs.no_answer_without_call.Goals as goal

pub returns : goal.returns
returns c = no_answer_without_call
