use Rattle.std.proofs.Common.{◌++◌, ap, sym, arith}
use Rattle.std.specs.Prelude.{Err}
use Rattle.oplog.specs.Entries.{entries}
use Rattle.oplog.proofs.AreaRefusing.{handed_on}
use Rattle.oplog.proofs.Walks.{item_steps, next_item, next_record, nothing_left, record_steps}
use Rattle.oplog.proofs.walk.first_entry.Goals as goal

pub returns-in_err-item-clause-undamaged : goal.returns-in_err-item-clause-undamaged
returns-in_err-item-clause-undamaged c items records is damaged =
    let next = next_item items records c.args.left.now c.args.taken (omega arith) is in
    c.in_err-item.ensures.undamaged next.item (entries next.items_left ++ next.rest) next.fits next.parts
    (ap Err (handed_on c.from_residual.result c.in_err-item.field-0.0 c.from_residual.ensures.1 damaged))

pub returns-then-taken-gt0-clause-steps : goal.returns-then-taken-gt0-clause-steps
returns-then-taken-gt0-clause-steps c items records is =
    item_steps items records c.args.left.now c.args.taken c.in_ok-item.item.0 c.in_ok-item.item.1.now (omega arith) c.in_ok-item.ensures.found is

pub returns-in_err-record-clause-undamaged : goal.returns-in_err-record-clause-undamaged
returns-in_err-record-clause-undamaged c items records is damaged =
    let next = next_record items records c.args.left.now c.behind_gate.result.now c.args.taken (omega arith) c.behind_gate.ensures is in
    c.in_err-record.ensures.undamaged next.entry_is next.behind next.fits next.parts
    (ap Err (handed_on c.from_residual-in_err-record.result c.in_err-record.field-0.0 c.from_residual-in_err-record.ensures.1 damaged))

pub returns-then-is_open-clause-steps : goal.returns-then-is_open-clause-steps
returns-then-is_open-clause-steps c items records is =
    record_steps items records c.args.left.now c.behind_gate.result.now c.args.taken c.in_ok-record.record.0 c.in_ok-record.record.1.now (omega arith) c.behind_gate.ensures c.in_ok-record.ensures.found is

pub returns-clause-none : goal.returns-clause-none
returns-clause-none c items records is = λ none. nothing_left items records c.args.left.now c.args.taken (omega arith) (sym c.if-is_open.ensures) is
