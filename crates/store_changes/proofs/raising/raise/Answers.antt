use Rattle.std.proofs.Common.{List, length, sym, ◌∙◌, subst, arith}
use Rattle.std.specs.FinMap as map
use Rattle.std.proofs.lemmas.Result.{on_ok_weaker}
use Rattle.disk_redo.specs.Redo.{FitsArea}
use Rattle.disk_redo.specs.declared.range.RedoRange.{RedoRange}
use Rattle.replica_store.specs.declared.change.StoreChange.TheVariants.{Raise}
use Rattle.store_disk.specs.Index.{IndexState}
use Rattle.store_changes.specs.Areas.{area_of}
use Rattle.store_changes.specs.Changing.{IsChanged}
use Rattle.store_changes.proofs.Made.{change_made, nothing_made, says_so}
use Rattle.store_changes.proofs.Slots.{raised, slot_range_fits}
use Rattle.store_disk.specs.Fields.{header_bytes}
use Rattle.store_disk.specs.Stored.{header_of, raised_row}
use Rattle.store_changes.proofs.raising.raise.Goals as goal

pub returns-in_err-ranges-clause-any_moment : goal.returns-in_err-ranges-clause-any_moment
returns-in_err-ranges-clause-any_moment g c =
    let disk = g.D.Disk in
    let layout = c.args.layout in
    nothing_made disk.seen disk.may_leave disk.moment disk.left_since layout.chunk layout.block layout.slots c.args.index.now (Raise c.args.handle c.args.version) c.args.disk.now c.requires.rest.durable (g.met.D.Disk.only_now c.args.disk.now)

pub returns-in_err-update-clause-any_moment : goal.returns-in_err-update-clause-any_moment
returns-in_err-update-clause-any_moment g c =
    let disk = g.D.Disk in
    let layout = c.args.layout in
    nothing_made disk.seen disk.may_leave disk.moment disk.left_since layout.chunk layout.block layout.slots c.args.index.now (Raise c.args.handle c.args.version) c.args.disk.now c.requires.rest.durable (g.met.D.Disk.only_now c.args.disk.now)

pub change-requires-clause-fits : goal.change-requires-clause-fits
change-requires-clause-fits g c =
    let layout = c.args.layout in
    let old = g.D.Disk.seen c.args.disk.now in
    let is = c.deref.ensures.value ∙ c.in_ok-ranges.ensures.ranges in
    subst (λ (rs : List RedoRange). FitsArea (area_of layout.chunk layout.block) (length old) rs) (sym is)
    (slot_range_fits layout.chunk layout.block layout.slots old c.requires.size c.args.found.slot (header_bytes (header_of c.args.handle.0 (raised_row c.args.version.0 c.args.found.row))) c.requires.slot (omega arith))

pub returns-clause-made : goal.returns-clause-made
returns-clause-made g c =
    let disk = g.D.Disk in
    let layout = c.args.layout in
    let index = c.args.index.now in
    let old = disk.seen c.args.disk.now in
    let is = c.deref.ensures.value ∙ c.in_ok-ranges.ensures.ranges in
    on_ok_weaker c.change.result
    (λ made. subst (λ (i : IndexState). IsChanged layout.chunk layout.block layout.slots index old i (disk.seen c.change.new.disk) (Raise c.args.handle c.args.version)) (sym c.in_ok-update.ensures.ok)
    (says_so disk.seen disk.may_leave disk.moment disk.left_since layout.chunk layout.block layout.slots index (Raise c.args.handle c.args.version) c.args.disk.now c.change.new.disk c.deref.result.now (record index { held = map.insert index.held c.args.handle.0 (record c.args.found { row = raised_row c.args.version.0 c.args.found.row }) })
    (raised layout.chunk layout.block layout.slots index old c.requires.size c.requires.rest.closed c.args.handle.0 c.args.found c.requires.found c.args.version.0 c.deref.result.now c.raise_ranges.ensures.fits is) made))
    c.change.ensures.made

pub returns-clause-any_moment : goal.returns-clause-any_moment
returns-clause-any_moment g c =
    let disk = g.D.Disk in
    let layout = c.args.layout in
    let index = c.args.index.now in
    let old = disk.seen c.args.disk.now in
    let is = c.deref.ensures.value ∙ c.in_ok-ranges.ensures.ranges in
    change_made disk.seen disk.may_leave disk.moment disk.left_since layout.chunk layout.block layout.slots index (Raise c.args.handle c.args.version) c.args.disk.now c.change.new.disk c.deref.result.now (record index { held = map.insert index.held c.args.handle.0 (record c.args.found { row = raised_row c.args.version.0 c.args.found.row }) })
    (raised layout.chunk layout.block layout.slots index old c.requires.size c.requires.rest.closed c.args.handle.0 c.args.found c.requires.found c.args.version.0 c.deref.result.now c.raise_ranges.ensures.fits is) c.change.ensures.any_moment
