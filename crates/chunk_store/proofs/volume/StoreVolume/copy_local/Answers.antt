use Rattle.std.proofs.Common.{◌≡◌, inl, inr, ℕ, true, List, length, slice_get, refl, sym, ap, ◌∙◌, subst, arith, Some, Err}
use Rattle.std.specs.Prelude.{is_some}
use Rattle.std.specs.FinMap as map
use Rattle.std.proofs.lemmas.Result.{on_ok_weaker}
use Rattle.replica_store.specs.declared.change.StoreChange.TheVariants.{Copy, Put}
use Rattle.replica_store.specs.declared.row.Row.{Row}
use Rattle.replica_store.specs.Replicas.{ServerDisk, is_disk_full, row_at}
use Rattle.store_disk.proofs.Looked.{full_none, no_row, none_free, one_row, some_free, test_none, test_some}
use Rattle.chunk_store.specs.Volumes.{IsOpen}
use Rattle.store_changes.specs.declared.fault.StoreFault.{StoreFault}
use Rattle.store_changes.specs.declared.fault.StoreFault.TheVariants as faults
use Rattle.store_changes.proofs.Answered.{handed_on, handed_over, no_such, not_full, not_old}
use Rattle.store_changes.proofs.Imaged.{put_copies}
use Rattle.chunk_store.proofs.Copied.{change_leaves, image_fits, read_leaves}
use Rattle.chunk_store.proofs.StillOpen.{chunk_there, full_open, none_held, row_held}
use Rattle.chunk_store.proofs.Ready.{leaves_none}
use Rattle.chunk_store.proofs.volume.StoreVolume.copy_local.Goals as goal

pub returns-in-Err-clause-version : goal.returns-in-Err-clause-version
returns-in-Err-clause-version g c d is = (
  λ e. (let p = (c.in-Err.ensures.version d is).0 (handed_on c.in-Err.fault faults.Version e) in (p.0, p.1, inl p.2)),
  λ p. elim c.in-Err.ensures.no_other [
    | inl none ↦ absurd (no_row (row_at d c.args.handle.0) p.0 ((c.in-Err.ensures.no_chunk d is).0 (ap (λ (x : StoreFault). Err x) none)) p.1)
    | inr wrong ↦ ap (λ (x : StoreFault). Err x) wrong
  ],
)

pub returns-in-Err-clause-no_room : goal.returns-in-Err-clause-no_room
returns-in-Err-clause-no_room g c d is = (
  λ e. absurd (not_full c.in-Err.fault c.in-Err.ensures.no_other e),
  λ p. absurd (no_such p.0 d c.args.handle.0 c.args.version c.in-Err.fault c.in-Err.ensures.no_other (c.in-Err.ensures.no_chunk d is).0 (c.in-Err.ensures.version d is).0 p.1 p.2),
)

pub returns-in-Err-clause-any_moment : goal.returns-in-Err-clause-any_moment
returns-in-Err-clause-any_moment g c =
    let disk = g.D.Disk in
    leaves_none disk.seen disk.may_leave c.args.self.now c.requires.ready disk.moment disk.left_since (g.met.D.Disk.only_now c.args.self.now.disk) (Copy c.args.handle c.args.copy c.args.copy_version)

pub returns-then-is_some-clause-no_chunk : goal.returns-then-is_some-clause-no_chunk
returns-then-is_some-clause-no_chunk g c d is = chunk_there g.D.Disk.seen g.D.Disk.may_leave c.args.self.now d is c.args.handle.0 c.in-Ok.field-0 c.in-Ok.ensures.found.0 (λ e. absurd cc)

pub returns-then-is_some-clause-version : goal.returns-then-is_some-clause-version
returns-then-is_some-clause-version g c d is =
    let store = c.args.self.now in
    let held = test_some (map.get store.index.held c.args.copy.0) (ap is_some (sym c.get.ensures) ∙ sym c.is_some.ensures ∙ c.if-is_some.true) in
    let there = row_held g.D.Disk.seen g.D.Disk.may_leave store d is c.args.handle.0 c.in-Ok.field-0 c.in-Ok.ensures.found.0 in
    (λ e. (c.in-Ok.field-0.row, there, inr (held.0.row, row_held g.D.Disk.seen g.D.Disk.may_leave store d is c.args.copy.0 held.0 held.1)), λ p. refl)

pub returns-then-is_some-clause-no_room : goal.returns-then-is_some-clause-no_room
returns-then-is_some-clause-no_room g c d is =
    let store = c.args.self.now in
    let held = test_some (map.get store.index.held c.args.copy.0) (ap is_some (sym c.get.ensures) ∙ sym c.is_some.ensures ∙ c.if-is_some.true) in
    (λ e. absurd cc, λ p. absurd (no_row (row_at d c.args.copy.0) held.0.row p.3 (row_held g.D.Disk.seen g.D.Disk.may_leave store d is c.args.copy.0 held.0 held.1)))

pub returns-then-is_some-clause-any_moment : goal.returns-then-is_some-clause-any_moment
returns-then-is_some-clause-any_moment g c =
    let disk = g.D.Disk in
    leaves_none disk.seen disk.may_leave c.args.self.now c.requires.ready disk.moment disk.left_since (g.met.D.Disk.only_now c.args.self.now.disk) (Copy c.args.handle c.args.copy c.args.copy_version)

pub returns-then-is_full-clause-no_chunk : goal.returns-then-is_full-clause-no_chunk
returns-then-is_full-clause-no_chunk g c d is = chunk_there g.D.Disk.seen g.D.Disk.may_leave c.args.self.now d is c.args.handle.0 c.in-Ok.field-0 c.in-Ok.ensures.found.0 (λ e. absurd cc)

pub returns-then-is_full-clause-version : goal.returns-then-is_full-clause-version
returns-then-is_full-clause-version g c d is =
    let store = c.args.self.now in
    let there = row_held g.D.Disk.seen g.D.Disk.may_leave store d is c.args.handle.0 c.in-Ok.field-0 c.in-Ok.ensures.found.0 in
    let none = test_none (map.get store.index.held c.args.copy.0) (ap is_some (sym c.get.ensures) ∙ sym c.is_some.ensures ∙ c.if-is_some.false) in (
      λ e. absurd cc,
      λ p. elim p.2 [
        | inl wrong ↦ absurd (wrong (ap (λ (r : Row). r.version) (one_row (row_at d c.args.handle.0) p.0 c.in-Ok.field-0.row p.1 there) ∙ c.in-Ok.ensures.found.1))
        | inr held ↦ absurd (no_row (row_at d c.args.copy.0) held.0 (none_held g.D.Disk.seen g.D.Disk.may_leave store d is c.args.copy.0 none) held.1)
      ],
    )

pub returns-then-is_full-clause-no_room : goal.returns-then-is_full-clause-no_room
returns-then-is_full-clause-no_room g c d is =
    let store = c.args.self.now in
    let there = row_held g.D.Disk.seen g.D.Disk.may_leave store d is c.args.handle.0 c.in-Ok.field-0 c.in-Ok.ensures.found.0 in
    let none = test_none (map.get store.index.held c.args.copy.0) (ap is_some (sym c.get.ensures) ∙ sym c.is_some.ensures ∙ c.if-is_some.false) in
    let free = none_free store.index.free (full_none (slice_get store.index.free 0) (sym c.is_full.ensures ∙ c.if-is_full.true)) in
    (λ e. (c.in-Ok.field-0.row, there, c.in-Ok.ensures.found.1, none_held g.D.Disk.seen g.D.Disk.may_leave store d is c.args.copy.0 none, (full_open g.D.Disk.seen g.D.Disk.may_leave store d is).0 free), λ p. refl)

pub returns-then-is_full-clause-any_moment : goal.returns-then-is_full-clause-any_moment
returns-then-is_full-clause-any_moment g c =
    let disk = g.D.Disk in
    leaves_none disk.seen disk.may_leave c.args.self.now c.requires.ready disk.moment disk.left_since (g.met.D.Disk.only_now c.args.self.now.disk) (Copy c.args.handle c.args.copy c.args.copy_version)

pub install-requires-clause-within : goal.install-requires-clause-within
install-requires-clause-within g c =
    let same = ap (λ s. s.layout.chunk) c.image.ensures.unchanged in
    omega (arith, c.if-count-chunk.false, same, ap length c.deref.ensures, c.len-count.ensures.value)

pub returns-else-count-chunk-clause-ok : goal.returns-else-count-chunk-clause-ok
returns-else-count-chunk-clause-ok g c d is =
    let read = ap (λ (l : List ℕ). Some l) c.deref.ensures ∙ c.in-Ok-image.ensures.ok d is.says in
    on_ok_weaker c.install.result
    (λ made. subst (λ (e : ServerDisk). IsOpen g.D.Disk.seen g.D.Disk.may_leave c.install.new.self e) (put_copies d c.args.handle c.args.copy c.args.copy_version c.deref.result.now read) made)
    (c.install.ensures.ok d (c.image.ensures.still_open d is))

pub returns-else-count-chunk-clause-no_chunk : goal.returns-else-count-chunk-clause-no_chunk
returns-else-count-chunk-clause-no_chunk g c d is = chunk_there g.D.Disk.seen g.D.Disk.may_leave c.args.self.now d is c.args.handle.0 c.in-Ok.field-0 c.in-Ok.ensures.found.0 c.install.ensures.no_chunk

pub returns-else-count-chunk-clause-version : goal.returns-else-count-chunk-clause-version
returns-else-count-chunk-clause-version g c d is =
    let there = row_held g.D.Disk.seen g.D.Disk.may_leave c.args.self.now d is c.args.handle.0 c.in-Ok.field-0 c.in-Ok.ensures.found.0 in
    let known = c.install.ensures.version d (c.image.ensures.still_open d is) in (
      λ e. (c.in-Ok.field-0.row, there, inr (known.0 e)),
      λ p. elim p.2 [
        | inl wrong ↦ absurd (wrong (ap (λ (r : Row). r.version) (one_row (row_at d c.args.handle.0) p.0 c.in-Ok.field-0.row p.1 there) ∙ c.in-Ok.ensures.found.1))
        | inr held ↦ known.1 held
      ],
    )

pub returns-else-count-chunk-clause-corrupt : goal.returns-else-count-chunk-clause-corrupt
returns-else-count-chunk-clause-corrupt g c d is e = absurd (c.install.ensures.intact e)

pub returns-else-count-chunk-clause-no_room : goal.returns-else-count-chunk-clause-no_room
returns-else-count-chunk-clause-no_room g c d is =
    let store = c.args.self.now in
    let room : is_disk_full store.layout.slots d ≡ true → ⊥ = λ full. some_free store.index.free (sym c.is_full.ensures ∙ c.if-is_full.false) ((full_open g.D.Disk.seen g.D.Disk.may_leave store d is).1 full) in
    (λ e. absurd (room (ap (λ s. is_disk_full s.layout.slots d) (sym c.image.ensures.unchanged) ∙ ((c.install.ensures.no_room d (c.image.ensures.still_open d is)).0 e).1)), λ p. absurd (room p.4))

pub returns-else-count-chunk-clause-refused : goal.returns-else-count-chunk-clause-refused
returns-else-count-chunk-clause-refused g c d is refused = c.install.ensures.refused d (c.image.ensures.still_open d is) refused

pub returns-else-count-chunk-clause-any_moment : goal.returns-else-count-chunk-clause-any_moment
returns-else-count-chunk-clause-any_moment g c =
    let disk = g.D.Disk in
    change_leaves disk.seen disk.may_leave c.args.self.now c.requires.ready disk.moment disk.left_since c.image.new.self c.image.ensures.reads (Copy c.args.handle c.args.copy c.args.copy_version) c.install.new.self
    (Put c.args.copy c.args.copy_version (record { 0 = 0 }) c.deref.result.now) c.image.ensures.unchanged
    (λ e says. put_copies e c.args.handle c.args.copy c.args.copy_version c.deref.result.now (ap (λ (l : List ℕ). Some l) c.deref.ensures ∙ c.in-Ok-image.ensures.ok e says)) c.install.ensures.any_moment

pub returns-in-Err-image-clause-no_chunk : goal.returns-in-Err-image-clause-no_chunk
returns-in-Err-image-clause-no_chunk g c d is = handed_over c.in-Err-image.fault faults.NoChunk (c.in-Err-image.ensures.no_chunk d is)

pub returns-in-Err-image-clause-version : goal.returns-in-Err-image-clause-version
returns-in-Err-image-clause-version g c d is =
    let store = c.args.self.now in
    let none = test_none (map.get store.index.held c.args.copy.0) (ap is_some (sym c.get.ensures) ∙ sym c.is_some.ensures ∙ c.if-is_some.false) in
    let known = c.in-Err-image.ensures.version d is in (
      λ e. (let p = known.0 (handed_on c.in-Err-image.fault faults.Version e) in (p.0, p.1, inl p.2)),
      λ p. elim p.2 [
        | inl wrong ↦ handed_on c.in-Err-image.fault faults.Version (known.1 (p.0, p.1, wrong))
        | inr held ↦ absurd (no_row (row_at d c.args.copy.0) held.0 (none_held g.D.Disk.seen g.D.Disk.may_leave store d is c.args.copy.0 none) held.1)
      ],
    )

pub returns-in-Err-image-clause-corrupt : goal.returns-in-Err-image-clause-corrupt
returns-in-Err-image-clause-corrupt g c d is e = c.in-Err-image.ensures.corrupt d is (handed_on c.in-Err-image.fault faults.Corrupt e)

pub returns-in-Err-image-clause-no_room : goal.returns-in-Err-image-clause-no_room
returns-in-Err-image-clause-no_room g c d is = (
  λ e. absurd (c.in-Err-image.ensures.no_room (handed_on c.in-Err-image.fault faults.NoRoom e)),
  λ p. absurd (some_free c.args.self.now.index.free (sym c.is_full.ensures ∙ c.if-is_full.false) ((full_open g.D.Disk.seen g.D.Disk.may_leave c.args.self.now d is).1 p.4)),
)

pub returns-in-Err-image-clause-refused : goal.returns-in-Err-image-clause-refused
returns-in-Err-image-clause-refused g c d is refused = c.image.ensures.still_open d is

pub returns-in-Err-image-clause-any_moment : goal.returns-in-Err-image-clause-any_moment
returns-in-Err-image-clause-any_moment g c =
    let disk = g.D.Disk in
    read_leaves disk.seen disk.may_leave c.args.self.now c.requires.ready disk.moment disk.left_since c.image.new.self c.image.ensures.reads (Copy c.args.handle c.args.copy c.args.copy_version)

pub returns-in-Err-clause-no_serial : goal.returns-in-Err-clause-no_serial
returns-in-Err-clause-no_serial g c e = not_old c.in-Err.fault c.in-Err.ensures.no_other e

pub returns-in-Err-image-clause-no_serial : goal.returns-in-Err-image-clause-no_serial
returns-in-Err-image-clause-no_serial g c e = c.in-Err-image.ensures.no_serial (handed_on c.in-Err-image.fault faults.OldSerial e)

pub returns-then-count-chunk-clause-no_chunk : goal.returns-then-count-chunk-clause-no_chunk
returns-then-count-chunk-clause-no_chunk g c d is =
    let fits = image_fits g.D.Disk.seen g.D.Disk.may_leave c.args.self.now d is c.args.handle.0 c.in-Ok.field-0 c.in-Ok.ensures.found.0 c.in-Ok-image.bytes (c.in-Ok-image.ensures.ok d is.says) in
    let same = ap (λ s. s.layout.chunk) c.image.ensures.unchanged in
    absurd (omega (arith, fits, same, c.if-count-chunk.true, c.len-count.ensures.value))

pub returns-then-count-chunk-clause-version : goal.returns-then-count-chunk-clause-version
returns-then-count-chunk-clause-version g c d is =
    let fits = image_fits g.D.Disk.seen g.D.Disk.may_leave c.args.self.now d is c.args.handle.0 c.in-Ok.field-0 c.in-Ok.ensures.found.0 c.in-Ok-image.bytes (c.in-Ok-image.ensures.ok d is.says) in
    let same = ap (λ s. s.layout.chunk) c.image.ensures.unchanged in
    absurd (omega (arith, fits, same, c.if-count-chunk.true, c.len-count.ensures.value))

pub returns-then-count-chunk-clause-corrupt : goal.returns-then-count-chunk-clause-corrupt
returns-then-count-chunk-clause-corrupt g c d is e =
    let fits = image_fits g.D.Disk.seen g.D.Disk.may_leave c.args.self.now d is c.args.handle.0 c.in-Ok.field-0 c.in-Ok.ensures.found.0 c.in-Ok-image.bytes (c.in-Ok-image.ensures.ok d is.says) in
    let same = ap (λ s. s.layout.chunk) c.image.ensures.unchanged in
    absurd (omega (arith, fits, same, c.if-count-chunk.true, c.len-count.ensures.value))

pub returns-then-count-chunk-clause-no_room : goal.returns-then-count-chunk-clause-no_room
returns-then-count-chunk-clause-no_room g c d is =
    let fits = image_fits g.D.Disk.seen g.D.Disk.may_leave c.args.self.now d is c.args.handle.0 c.in-Ok.field-0 c.in-Ok.ensures.found.0 c.in-Ok-image.bytes (c.in-Ok-image.ensures.ok d is.says) in
    let same = ap (λ s. s.layout.chunk) c.image.ensures.unchanged in
    absurd (omega (arith, fits, same, c.if-count-chunk.true, c.len-count.ensures.value))

pub returns-then-count-chunk-clause-refused : goal.returns-then-count-chunk-clause-refused
returns-then-count-chunk-clause-refused g c d is e =
    let fits = image_fits g.D.Disk.seen g.D.Disk.may_leave c.args.self.now d is c.args.handle.0 c.in-Ok.field-0 c.in-Ok.ensures.found.0 c.in-Ok-image.bytes (c.in-Ok-image.ensures.ok d is.says) in
    let same = ap (λ s. s.layout.chunk) c.image.ensures.unchanged in
    absurd (omega (arith, fits, same, c.if-count-chunk.true, c.len-count.ensures.value))

pub returns-then-count-chunk-clause-any_moment : goal.returns-then-count-chunk-clause-any_moment
returns-then-count-chunk-clause-any_moment g c =
    let disk = g.D.Disk in
    read_leaves disk.seen disk.may_leave c.args.self.now c.requires.ready disk.moment disk.left_since c.image.new.self c.image.ensures.reads (Copy c.args.handle c.args.copy c.args.copy_version)
