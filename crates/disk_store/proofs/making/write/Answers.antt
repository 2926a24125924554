use Rattle.std.proofs.Common.{◌≡◌, ℕ, ◌+◌, true, false, List, length, refl, sym, ap, ◌∙◌, arith, subst}
use Rattle.std.specs.Prelude.{OnOk}
use Rattle.disk_redo.proofs.Moments.{reads_nothing}
use Rattle.replica_store.specs.Replicas.{disk_changed, is_writable_at}
use Rattle.replica_store.specs.declared.change.StoreChange.TheVariants.{Write}
use Rattle.chunk_store.specs.Stores.{IsOpen}
use Rattle.disk_store.specs.Known.{can_take}
use Rattle.disk_store.specs.Standing.{LeavesMade}
use Rattle.disk_store.proofs.Causes.{corrupt_refused}
use Rattle.disk_store.proofs.Made.{change_made, none_made}
use Rattle.disk_store.proofs.Fitting.{applied_fits, memory_fits, none_takes, write_takes}
use Rattle.disk_store.proofs.making.write.Goals as goal

pub returns-in_default-clause-any_moment : goal.returns-in_default-clause-any_moment
returns-in_default-clause-any_moment g c =
    let disk = g.D.Disk in
    none_made disk.seen disk.may_leave disk.moment disk.left_since c.args.store.now (g.met.D.Disk.only_now c.args.store.now.disk) (Write c.args.handle c.args.serial c.args.offset c.args.bytes.now)

pub returns-in_err-clone-clause-any_moment : goal.returns-in_err-clone-clause-any_moment
returns-in_err-clone-clause-any_moment g c =
    let disk = g.D.Disk in
    none_made disk.seen disk.may_leave disk.moment disk.left_since c.args.store.now (g.met.D.Disk.only_now c.args.store.now.disk) (Write c.args.handle c.args.serial c.args.offset c.args.bytes.now)

pub apply-requires-clause-within : goal.apply-requires-clause-within
apply-requires-clause-within g c = (let same = ap length c.in_ok-clone.ensures.cases in omega (arith, c.requires.within, same))

pub returns-clause-ok : goal.returns-clause-ok
returns-clause-ok g c d is =
    subst (λ (b : List ℕ). OnOk c.apply.result (IsOpen g.D.Disk.seen g.D.Disk.may_leave c.apply.new.self (disk_changed d (Write c.args.handle c.args.serial c.args.offset b)))) c.in_ok-clone.ensures.cases (c.apply.ensures.ok d is)

pub returns-clause-any_moment : goal.returns-clause-any_moment
returns-clause-any_moment g c =
    let disk = g.D.Disk in
    subst (λ (b : List ℕ). LeavesMade disk.seen disk.may_leave disk.moment disk.left_since c.args.store.now c.apply.new.self (Write c.args.handle c.args.serial c.args.offset b)) c.in_ok-clone.ensures.cases
    (change_made disk.seen disk.may_leave disk.moment disk.left_since c.args.store.now c.apply.new.self (Write c.args.handle c.args.serial c.args.offset c.in_ok-clone.field-0) c.apply.ensures.any_moment)

pub returns-in_default-clause-untouched : goal.returns-in_default-clause-untouched
returns-in_default-clause-untouched g c d is none =
    let disk = g.D.Disk in
    reads_nothing disk.seen disk.may_leave disk.moment disk.left_since c.args.store.now.disk (g.met.D.Disk.only_now c.args.store.now.disk)

pub returns-in_err-clone-clause-untouched : goal.returns-in_err-clone-clause-untouched
returns-in_err-clone-clause-untouched g c d is none =
    let disk = g.D.Disk in
    reads_nothing disk.seen disk.may_leave disk.moment disk.left_since c.args.store.now.disk (g.met.D.Disk.only_now c.args.store.now.disk)

pub returns-clause-writable : goal.returns-clause-writable
returns-clause-writable g c d is =
    subst (λ (b : List ℕ). OnOk c.apply.result (is_writable_at d c.args.handle.0 c.args.offset (c.args.offset + length b) ≡ true)) c.in_ok-clone.ensures.cases (c.apply.ensures.writable d is)

pub returns-clause-corrupt : goal.returns-clause-corrupt
returns-clause-corrupt g c d is e = (
  subst (λ (b : List ℕ). is_writable_at d c.args.handle.0 c.args.offset (c.args.offset + length b) ≡ false) c.in_ok-clone.ensures.cases (c.apply.ensures.corrupt d is e),
  c.apply.ensures.refused d is (corrupt_refused c.apply.result e),
)

pub returns-clause-untouched : goal.returns-clause-untouched
returns-clause-untouched g c d is none =
    c.apply.ensures.untouched d is (subst (λ (b : List ℕ). is_writable_at d c.args.handle.0 c.args.offset (c.args.offset + length b) ≡ false) (sym c.in_ok-clone.ensures.cases) none)

pub returns-in_default-clause-only : goal.returns-in_default-clause-only
returns-in_default-clause-only g c d is known told =
    let takes = write_takes c.args.store.now.layout.chunk c.args.known.now.rows c.args.handle c.args.serial c.args.offset c.args.bytes.now told in
    absurd (none_takes c.args.serial.0 _ (sym c.row.ensures ∙ c.in_default.is) takes)

pub returns-in_err-clone-clause-only : goal.returns-in_err-clone-clause-only
returns-in_err-clone-clause-only g c d is known told = memory_fits (Write c.args.handle c.args.serial c.args.offset c.args.bytes.now) c.from_residual.result c.from_residual.ensures.1

pub returns-clause-only : goal.returns-clause-only
returns-clause-only g c d is known told =
    let row = sym (known.rows_are c.args.handle.0) ∙ sym c.row.ensures ∙ c.in-Some.is in
    let takes = write_takes c.args.store.now.layout.chunk c.args.known.now.rows c.args.handle c.args.serial c.args.offset c.args.bytes.now told in
    applied_fits (Write c.args.handle c.args.serial c.args.offset c.args.bytes.now) c.apply.result d c.args.handle.0 c.in-Some.row.version c.in-Some.row row refl (c.apply.ensures.no_chunk d is)
    c.args.serial.0 refl (ap (can_take c.args.serial.0) (sym (known.rows_are c.args.handle.0)) ∙ takes) (c.apply.ensures.version d is) (c.apply.ensures.old_serial d is)
