use Rattle.std.proofs.Common.{◌∙◌, sym, arith}
use Rattle.script.proofs.ReadPlans.{not_for, not_read}
use Rattle.script.proofs.plan.line_asked.Goals as goal

pub returns-else-is_for-clause-fault : goal.returns-else-is_for-clause-fault
returns-else-is_for-clause-fault c = (omega arith, not_for c.args.clients c.args.text.now c.in-Ok.line c.in-Ok.ensures (sym c.is_for.ensures ∙ c.if-is_for.false))

pub returns-in-Err-clause-fault : goal.returns-in-Err-clause-fault
returns-in-Err-clause-fault c = not_read c.args.clients c.args.text.now _ _ c.in-Err.fault c.of_line.result c.in-Err.ensures (omega arith) c.of_line.ensures
