use Rattle.std.proofs.Common.{◌≡◌, false, ap, sym, arith}
use Rattle.std.specs.Prelude.{Err}
use Rattle.oplog.specs.Order.{comes_next}
use Rattle.oplog.proofs.Gates.{none_left, some_left}
use Rattle.oplog.proofs.Items.{items_begun, items_few, items_go_on, next_in_order}
use Rattle.oplog.proofs.Parsing.{entries_end, next_entry}
use Rattle.oplog.proofs.AreaRefusing.{handed_on, shorter}
use Rattle.oplog.proofs.reading_items.read_items.Goals as goal

pub loop-rest-init : goal.loop-rest-init
loop-rest-init c = rw c.new-items.ensures (items_begun c.args.bytes.now)

pub loop-rest-smaller : goal.loop-rest-smaller
loop-rest-smaller c = shorter c.in_ok-item.item c.in_ok-item.after.now c.loop-rest.rest.now c.in_ok-item.ensures.found.1

pub push-requires : goal.push-requires
push-requires c = omega (arith, items_few c.loop-rest.items c.loop-rest.rest.now c.args.bytes.now c.loop-rest.invariant.read)

pub loop-rest-preserved : goal.loop-rest-preserved
loop-rest-preserved c =
    rw c.push.ensures (items_go_on c.loop-rest.items c.loop-rest.last c.loop-rest.rest.now c.args.bytes.now c.in_ok-item.item c.in_ok-item.after.now c.loop-rest.invariant c.in_ok-item.ensures.found (sym c.if-not-comes_next.ensures))

pub returns-in_err-item-clause-undamaged : goal.returns-in_err-item-clause-undamaged
returns-in_err-item-clause-undamaged c = λ items each ordered eq err.
    let next = next_entry c.loop-rest.items items c.loop-rest.rest.now c.args.bytes.now c.loop-rest.invariant.read each eq (some_left c.loop-rest.rest.now c.loop-rest-test.ensures) in
    c.in_err-item.ensures.undamaged next.0 next.1 next.2 next.3 (ap Err (handed_on c.from_residual.result c.in_err-item.field-0.0 c.from_residual.ensures.1 err))

pub returns-then-not-comes_next-clause-undamaged : goal.returns-then-not-comes_next-clause-undamaged
returns-then-not-comes_next-clause-undamaged c = λ items each ordered eq err.
    let next = next_in_order c.loop-rest.items items c.loop-rest.last c.loop-rest.rest.now c.args.bytes.now c.in_ok-item.item c.in_ok-item.after.now c.loop-rest.invariant each ordered eq c.in_ok-item.ensures.found in
    let not : false ≡ comes_next c.loop-rest.last c.in_ok-item.item = c.if-not-comes_next.ensures in
    absurd cc

pub returns-clause-found : goal.returns-clause-found
returns-clause-found c =
    let read = c.loop-rest.invariant in
    (entries_end c.loop-rest.items c.loop-rest.rest.now c.args.bytes.now read.read (none_left c.loop-rest.rest.now c.loop-rest-test.ensures), read.read.each, read.order)
