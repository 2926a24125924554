use Rattle.laws_machine.proofs.AskedParts.{calls_have_few_records}
use Rattle.laws_machine.proofs.bounded_calls.calls_have_few_records.Goals as goal

pub returns : goal.returns
returns c = calls_have_few_records
