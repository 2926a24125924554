use Rattle.std.proofs.Common.{true, false, ap, sym, arith}
use Rattle.std.specs.Prelude.{Err, ◌≡◌}
use Rattle.log_codec.specs.Payloads.{is_item}
use Rattle.oplog.proofs.Gates.{none_left}
use Rattle.oplog.proofs.Items.{records_few}
use Rattle.oplog.proofs.Parsing.{records_begun, records_go_on, next_record, no_item_next, gate_is_left}
use Rattle.oplog.proofs.AreaRefusing.{handed_on}
use Rattle.oplog.proofs.reading_items.read_records.Goals as goal

pub loop-alloc-init : goal.loop-alloc-init
loop-alloc-init c = rw c.new-records.ensures (records_begun c.args.bytes.now)

pub loop-alloc-preserved : goal.loop-alloc-preserved
loop-alloc-preserved c =
    rw c.push.ensures (records_go_on c.loop-alloc.records c.loop-alloc.rest.now c.args.bytes.now c.behind_gate.result.now c.in_ok-record.record c.in_ok-record.after.now c.loop-alloc.invariant c.behind_gate.ensures c.in_ok-record.ensures.found (sym c.if-is_item.ensures))

pub returns-in_err-record-clause-undamaged : goal.returns-in_err-record-clause-undamaged
returns-in_err-record-clause-undamaged c = λ records holds err.
    let next = next_record c.loop-alloc.records records c.loop-alloc.rest.now c.args.bytes.now c.behind_gate.result.now c.loop-alloc.invariant c.behind_gate.ensures holds in
    c.in_err-record.ensures.undamaged next.0 next.1 next.2.0 next.3 (ap Err (handed_on c.from_residual.result c.in_err-record.field-0.0 c.from_residual.ensures.1 err))

pub returns-then-is_item-clause-undamaged : goal.returns-then-is_item-clause-undamaged
returns-then-is_item-clause-undamaged c = λ records holds err.
    let none : is_item c.in_ok-record.record ≡ false = no_item_next c.loop-alloc.records records c.loop-alloc.rest.now c.args.bytes.now c.behind_gate.result.now c.in_ok-record.record c.in_ok-record.after.now c.loop-alloc.invariant c.behind_gate.ensures holds c.in_ok-record.ensures.found in
    let is : true ≡ is_item c.in_ok-record.record = c.if-is_item.ensures in
    absurd cc

pub returns-then-is_empty-clause-undamaged : goal.returns-then-is_empty-clause-undamaged
returns-then-is_empty-clause-undamaged c = λ records holds err.
    absurd (omega (arith, gate_is_left c.loop-alloc.records records c.loop-alloc.rest.now c.args.bytes.now c.loop-alloc.invariant holds, none_left c.loop-alloc.rest.now c.if-is_empty.ensures))

pub push-requires : goal.push-requires
push-requires c = omega (arith, records_few c.loop-alloc.records c.loop-alloc.rest.now c.args.bytes.now c.loop-alloc.invariant)
