use Rattle.relaxed_file.proofs.Reasons.{file_calls_are_refused_for_a_reason}
use Rattle.relaxed_file.proofs.laws.file_calls_are_refused_for_a_reason.Goals as goal

pub returns : goal.returns
returns c = file_calls_are_refused_for_a_reason
