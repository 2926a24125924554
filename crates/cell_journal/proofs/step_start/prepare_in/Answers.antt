use Rattle.cell_journal.proofs.Slotting.{in_slot_ok, in_slot_err}
use Rattle.cell_journal.proofs.step_start.prepare_in.Goals as goal

pub returns-clause-ok : goal.returns-clause-ok
returns-clause-ok c = in_slot_ok c.args.slot.now c.in-Some.history c.prepare.new.history c.in-Some.is c.args.node c.args.number c.prepare.result c.prepare.ensures.ok

pub returns-clause-err : goal.returns-clause-err
returns-clause-err c = in_slot_err c.args.slot.now c.in-Some.history c.prepare.new.history c.in-Some.is c.prepare.result c.prepare.ensures.err
