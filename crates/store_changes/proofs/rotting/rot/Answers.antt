use Rattle.std.proofs.Common.{◌∙◌}
use Rattle.std.proofs.lemmas.Result.{on_ok_weaker}
use Rattle.replica_store.specs.declared.change.StoreChange.TheVariants.{Rot}
use Rattle.store_changes.proofs.Made.{change_made, nothing_made, says_so}
use Rattle.store_changes.proofs.Rotten.{rot_fits, rot_law}
use Rattle.store_changes.proofs.rotting.rot.Goals as goal

pub returns-in_err-ranges-clause-any_moment : goal.returns-in_err-ranges-clause-any_moment
returns-in_err-ranges-clause-any_moment g c =
    let disk = g.D.Disk in
    let l = c.args.layout in
    nothing_made disk.seen disk.may_leave disk.moment disk.left_since l.chunk l.block l.slots c.args.index.now (Rot c.args.handle c.args.place c.args.byte) c.args.disk.now c.requires.rest.durable (g.met.D.Disk.only_now c.args.disk.now)

pub change-requires-clause-fits : goal.change-requires-clause-fits
change-requires-clause-fits g c =
    let l = c.args.layout in
    let are = c.deref.ensures.value ∙ c.in_ok-ranges.ensures in
    rot_fits l.chunk l.block l.slots c.args.index.now (g.D.Disk.seen c.args.disk.now) c.requires.size c.requires.rest.closed c.args.handle.0 c.args.found c.requires.found c.args.place c.args.byte c.requires.place c.deref.result.now are c.requires.slot

pub returns-clause-made : goal.returns-clause-made
returns-clause-made g c =
    let disk = g.D.Disk in
    let l = c.args.layout in
    let are = c.deref.ensures.value ∙ c.in_ok-ranges.ensures in
    let law = rot_law l.chunk l.block l.slots c.args.index.now (disk.seen c.args.disk.now) c.requires.size c.requires.rest.closed c.args.handle.0 c.args.found c.requires.found c.args.place c.args.byte c.requires.place c.deref.result.now are in
    on_ok_weaker c.change.result
    (λ made. says_so disk.seen disk.may_leave disk.moment disk.left_since l.chunk l.block l.slots c.args.index.now (Rot c.args.handle c.args.place c.args.byte) c.args.disk.now c.change.new.disk c.deref.result.now c.args.index.now law made)
    c.change.ensures.made

pub returns-clause-any_moment : goal.returns-clause-any_moment
returns-clause-any_moment g c =
    let disk = g.D.Disk in
    let l = c.args.layout in
    let are = c.deref.ensures.value ∙ c.in_ok-ranges.ensures in
    let law = rot_law l.chunk l.block l.slots c.args.index.now (disk.seen c.args.disk.now) c.requires.size c.requires.rest.closed c.args.handle.0 c.args.found c.requires.found c.args.place c.args.byte c.requires.place c.deref.result.now are in
    change_made disk.seen disk.may_leave disk.moment disk.left_since l.chunk l.block l.slots c.args.index.now (Rot c.args.handle c.args.place c.args.byte) c.args.disk.now c.change.new.disk c.deref.result.now c.args.index.now law c.change.ensures.any_moment
