use Rattle.std.proofs.Common.{refl, sym, ◌∙◌}
use Rattle.replica_store.specs.declared.change.StoreChange.TheVariants.{Raise}
use Rattle.disk_store.proofs.Made.{change_made, none_made}
use Rattle.disk_store.proofs.Fitting.{none_raised, raised_fits}
use Rattle.disk_store.proofs.making.raise.Goals as goal

pub returns-in_default-clause-any_moment : goal.returns-in_default-clause-any_moment
returns-in_default-clause-any_moment g c =
    let disk = g.D.Disk in
    none_made disk.seen disk.may_leave disk.moment disk.left_since c.args.store.now (g.met.D.Disk.only_now c.args.store.now.disk) (Raise c.args.handle c.args.version)

pub returns-clause-any_moment : goal.returns-clause-any_moment
returns-clause-any_moment g c =
    let disk = g.D.Disk in
    change_made disk.seen disk.may_leave disk.moment disk.left_since c.args.store.now c.set_version.new.self (Raise c.args.handle c.args.version) c.set_version.ensures.any_moment

pub returns-clause-ok : goal.returns-clause-ok
returns-clause-ok g c d is = c.set_version.ensures.ok d is

pub returns-in_default-clause-only : goal.returns-in_default-clause-only
returns-in_default-clause-only g c d is known told = absurd (none_raised c.args.version.0 _ (sym c.row.ensures ∙ c.in_default.is) told)

pub returns-clause-only : goal.returns-clause-only
returns-clause-only g c d is known told =
    let row = sym (known.rows_are c.args.handle.0) ∙ sym c.row.ensures ∙ c.in-Some.is in
    raised_fits (Raise c.args.handle c.args.version) c.set_version.result d c.args.handle.0 c.in-Some.row.version c.in-Some.row row refl (c.set_version.ensures.no_chunk d is)
    (c.set_version.ensures.version d is) c.set_version.ensures.only
