use Rattle.std.proofs.Common.{refl, sym, ◌∙◌}
use Rattle.replica_store.specs.declared.change.StoreChange.TheVariants.{Copy}
use Rattle.disk_store.proofs.Made.{change_made, none_made}
use Rattle.disk_store.proofs.Fitting.{copied_fits, copy_lacks, copy_there, none_there}
use Rattle.disk_store.proofs.making.copy.Goals as goal

pub returns-in_default-clause-any_moment : goal.returns-in_default-clause-any_moment
returns-in_default-clause-any_moment g c =
    let disk = g.D.Disk in
    none_made disk.seen disk.may_leave disk.moment disk.left_since c.args.store.now (g.met.D.Disk.only_now c.args.store.now.disk) (Copy c.args.handle c.args.other c.args.version)

pub returns-clause-any_moment : goal.returns-clause-any_moment
returns-clause-any_moment g c =
    let disk = g.D.Disk in
    change_made disk.seen disk.may_leave disk.moment disk.left_since c.args.store.now c.copy_local.new.self (Copy c.args.handle c.args.other c.args.version) c.copy_local.ensures.any_moment

pub returns-clause-no_room : goal.returns-clause-no_room
returns-clause-no_room g c d is e = ((c.copy_local.ensures.no_room d is).0 e).4

pub returns-clause-ok : goal.returns-clause-ok
returns-clause-ok g c d is = c.copy_local.ensures.ok d is

pub returns-in_default-clause-only : goal.returns-in_default-clause-only
returns-in_default-clause-only g c d is known told copyable =
    absurd (none_there _ (sym c.row.ensures ∙ c.in_default.is) (copy_there c.args.store.now.layout.chunk c.args.known.now.rows c.args.handle c.args.other c.args.version told))

pub returns-clause-only : goal.returns-clause-only
returns-clause-only g c d is known told copyable =
    let row = sym (known.rows_are c.args.handle.0) ∙ sym c.row.ensures ∙ c.in-Some.is in
    let call = c.copy_local.ensures in
    copied_fits (Copy c.args.handle c.args.other c.args.version) c.copy_local.result d c.args.handle.0 c.in-Some.row.version c.in-Some.row row refl (call.no_chunk d is)
    c.args.other.0 (sym (known.rows_are c.args.other.0) ∙ copy_lacks c.args.store.now.layout.chunk c.args.known.now.rows c.args.handle c.args.other c.args.version told) copyable
    (call.version d is) (call.corrupt d is) call.no_serial
