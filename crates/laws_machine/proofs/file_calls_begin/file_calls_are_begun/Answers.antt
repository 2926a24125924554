use Rattle.laws_machine.proofs.FileCallsBegun.{file_calls_are_begun}
use Rattle.laws_machine.proofs.file_calls_begin.file_calls_are_begun.Goals as goal

pub returns : goal.returns
returns c = file_calls_are_begun
