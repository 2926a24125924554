use Rattle.std.proofs.Common.{List, sym, ◌∙◌, subst}
use Rattle.std.proofs.lemmas.Result.{on_ok_weaker}
use Rattle.disk_redo.specs.Changes.{applied}
use Rattle.disk_redo.specs.Redo.{stands_for}
use Rattle.disk_redo.specs.declared.range.RedoRange.{RedoRange}
use Rattle.replica_store.specs.declared.change.StoreChange.TheVariants.{SetOrder}
use Rattle.replica_store.specs.Replicas.{disk_changed}
use Rattle.store_changes.specs.Areas.{area_of}
use Rattle.store_changes.proofs.Areas.{rest_size}
use Rattle.store_changes.proofs.Made.{change_made, nothing_made, says_so}
use Rattle.store_disk.specs.Stored.{IsDiskOf}
use Rattle.store_disk.proofs.Keeping.{order_stored}
use Rattle.store_changes.proofs.orders.set_order.Goals as goal

pub returns-in_err-ranges-clause-any_moment : goal.returns-in_err-ranges-clause-any_moment
returns-in_err-ranges-clause-any_moment g c index =
    let disk = g.D.Disk in
    let layout = c.args.layout in
    nothing_made disk.seen disk.may_leave disk.moment disk.left_since layout.chunk layout.block layout.slots index (SetOrder c.args.order) c.args.disk.now c.requires.rest.durable (g.met.D.Disk.only_now c.args.disk.now)

pub returns-clause-made : goal.returns-clause-made
returns-clause-made g c =
    let disk = g.D.Disk in
    let layout = c.args.layout in
    let old = disk.seen c.args.disk.now in
    let before = stands_for (area_of layout.chunk layout.block) old in
    let is = c.deref.ensures.value ∙ c.in_ok-ranges.ensures.ranges in
    let size = rest_size layout.chunk layout.block layout.slots old c.requires.size c.requires.rest.closed in
    on_ok_weaker c.change.result
    (λ made index. says_so disk.seen disk.may_leave disk.moment disk.left_since layout.chunk layout.block layout.slots index (SetOrder c.args.order) c.args.disk.now c.change.new.disk c.deref.result.now index
    (λ d says. subst (λ (rs : List RedoRange). IsDiskOf layout.chunk layout.block layout.slots index (applied rs before) (disk_changed d (SetOrder c.args.order))) (sym is)
    (order_stored layout.chunk layout.block layout.slots index before d c.args.order c.order_ranges.ensures.fits size says)) made)
    c.change.ensures.made

pub returns-clause-any_moment : goal.returns-clause-any_moment
returns-clause-any_moment g c index =
    let disk = g.D.Disk in
    let layout = c.args.layout in
    let old = disk.seen c.args.disk.now in
    let before = stands_for (area_of layout.chunk layout.block) old in
    let is = c.deref.ensures.value ∙ c.in_ok-ranges.ensures.ranges in
    let size = rest_size layout.chunk layout.block layout.slots old c.requires.size c.requires.rest.closed in
    change_made disk.seen disk.may_leave disk.moment disk.left_since layout.chunk layout.block layout.slots index (SetOrder c.args.order) c.args.disk.now c.change.new.disk c.deref.result.now index
    (λ d says. subst (λ (rs : List RedoRange). IsDiskOf layout.chunk layout.block layout.slots index (applied rs before) (disk_changed d (SetOrder c.args.order))) (sym is)
    (order_stored layout.chunk layout.block layout.slots index before d c.args.order c.order_ranges.ensures.fits size says)) c.change.ensures.any_moment
