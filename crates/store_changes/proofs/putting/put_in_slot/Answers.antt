use Rattle.std.proofs.Common.{◌∷◌, ◌∙◌}
use Rattle.std.proofs.lemmas.Result.{on_ok_weaker}
use Rattle.replica_store.specs.declared.change.StoreChange.TheVariants.{Put}
use Rattle.store_disk.specs.Index.{index_with}
use Rattle.store_changes.proofs.Made.{change_made, nothing_made, says_so}
use Rattle.store_changes.proofs.Puts.{new_put, put_fits}
use Rattle.store_changes.proofs.putting.put_in_slot.Goals as goal

pub returns-in_err-ranges-clause-any_moment : goal.returns-in_err-ranges-clause-any_moment
returns-in_err-ranges-clause-any_moment g c index rest none first =
    let disk = g.D.Disk in
    let layout = c.args.layout in
    nothing_made disk.seen disk.may_leave disk.moment disk.left_since layout.chunk layout.block layout.slots index (Put c.args.handle c.args.row.version c.args.row.serial c.args.bytes.now) c.args.disk.now c.requires.rest.durable (g.met.D.Disk.only_now c.args.disk.now)

pub change-requires-clause-fits : goal.change-requires-clause-fits
change-requires-clause-fits g c =
    let layout = c.args.layout in
    put_fits layout.chunk layout.block layout.slots c.args.handle.0 c.args.slot (g.D.Disk.seen c.args.disk.now) c.args.row c.args.bytes.now c.deref.result.now c.requires.size c.requires.slot c.requires.within (c.deref.ensures.value ∙ c.in_ok-ranges.ensures.ranges)

pub returns-clause-made : goal.returns-clause-made
returns-clause-made g c =
    let disk = g.D.Disk in
    let layout = c.args.layout in
    let old = disk.seen c.args.disk.now in
    let is = c.deref.ensures.value ∙ c.in_ok-ranges.ensures.ranges in
    on_ok_weaker c.change.result
    (λ made index rest none first. says_so disk.seen disk.may_leave disk.moment disk.left_since layout.chunk layout.block layout.slots index (Put c.args.handle c.args.row.version c.args.row.serial c.args.bytes.now) c.args.disk.now c.change.new.disk c.deref.result.now (index_with index c.args.handle.0 c.args.row (c.args.slot ∷ rest))
    (new_put layout.chunk layout.block layout.slots index old c.requires.size c.requires.rest.closed c.args.handle.0 none c.args.slot rest first c.args.row c.args.bytes.now c.deref.result.now c.requires.within c.requires.count c.put_ranges.ensures.fits is) made)
    c.change.ensures.made

pub returns-clause-any_moment : goal.returns-clause-any_moment
returns-clause-any_moment g c index rest none first =
    let disk = g.D.Disk in
    let layout = c.args.layout in
    let old = disk.seen c.args.disk.now in
    let is = c.deref.ensures.value ∙ c.in_ok-ranges.ensures.ranges in
    change_made disk.seen disk.may_leave disk.moment disk.left_since layout.chunk layout.block layout.slots index (Put c.args.handle c.args.row.version c.args.row.serial c.args.bytes.now) c.args.disk.now c.change.new.disk c.deref.result.now (index_with index c.args.handle.0 c.args.row (c.args.slot ∷ rest))
    (new_put layout.chunk layout.block layout.slots index old c.requires.size c.requires.rest.closed c.args.handle.0 none c.args.slot rest first c.args.row c.args.bytes.now c.deref.result.now c.requires.within c.requires.count c.put_ranges.ensures.fits is) c.change.ensures.any_moment
