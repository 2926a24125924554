use Rattle.std.proofs.Common.{◌≡◌, ℕ, length, refl, ap, inl, ◌∙◌, arith}
use Rattle.std.specs.Prelude.{Err}
use Rattle.disk_redo.proofs.Moments.{same_changes, weaker}
use Rattle.oplog.specs.Layout.{area_at, area_size}
use Rattle.oplog.proofs.Refusing.{was_refused}
use Rattle.oplog.specs.Writing.{area_with, IsWriting}
use Rattle.oplog.proofs.WholeAreas.{behind_gate, elsewhere_at, room, says_at, stopped_at, unfinished_at}
use Rattle.oplog.proofs.area_writing.write_area.Goals as goal

pub commit-requires-clause-room : goal.commit-requires-clause-room
commit-requires-clause-room g c =
    let d = g.D.Disk.seen c.args.disk.now in
    let written : c.deref.result.now ≡ behind_gate c.args.number c.args.items.now = c.deref.ensures.value ∙ c.in_ok-bytes.ensures.bytes in
    let place : c.area_at-place.result ≡ area_at (length d) c.args.which = c.area_at-place.ensures.place ∙ ap (λ (k : ℕ). area_at k c.args.which) c.size.ensures in
    let there = room (length d) c.args.which c.args.number c.args.items.now d c.requires.large refl c.requires.which c.requires.closed c.requires.fits in
    omega (arith, there, ap length written, place)

pub returns-in_err-commit-clause-refused : goal.returns-in_err-commit-clause-refused
returns-in_err-commit-clause-refused g c refused =
    let d = g.D.Disk.seen c.args.disk.now in
    let written : c.deref.result.now ≡ behind_gate c.args.number c.args.items.now = c.deref.ensures.value ∙ c.in_ok-bytes.ensures.bytes in
    let place : c.area_at-place.result ≡ area_at (length d) c.args.which = c.area_at-place.ensures.place ∙ ap (λ (k : ℕ). area_at k c.args.which) c.size.ensures in
    let none = was_refused c.from_residual-in_err-commit.result c.in_err-commit.field-0.0 c.from_residual-in_err-commit.ensures.1 refused in
    let left = c.in_err-commit.ensures.refused (ap Err none) in (
      unfinished_at (length d) c.args.which c.args.number c.args.items.now d c.requires.large refl c.requires.which c.requires.closed c.requires.fits c.ranges.number.fits c.requires.short c.in_ok-bytes.ensures.stand c.requires.order
          c.area_at-place.result c.deref.result.now place written (g.D.Disk.seen c.commit.new.disk) left.0,
      left.1,
    )

pub returns-in_err-commit-clause-any_moment : goal.returns-in_err-commit-clause-any_moment
returns-in_err-commit-clause-any_moment g c =
    let d = g.D.Disk.seen c.args.disk.now in
    let written : c.deref.result.now ≡ behind_gate c.args.number c.args.items.now = c.deref.ensures.value ∙ c.in_ok-bytes.ensures.bytes in
    let place : c.area_at-place.result ≡ area_at (length d) c.args.which = c.area_at-place.ensures.place ∙ ap (λ (k : ℕ). area_at k c.args.which) c.size.ensures in
    weaker g.D.Disk.moment g.D.Disk.left_since c.args.disk.now c.commit.new.disk _ (IsWriting (length d) c.args.which (area_with c.args.number c.args.items.now) d) c.commit.ensures.any_moment
    (stopped_at (length d) c.args.which c.args.number c.args.items.now d c.requires.large refl c.requires.which c.requires.closed c.requires.fits c.ranges.number.fits c.requires.short c.in_ok-bytes.ensures.stand c.requires.order
    c.area_at-place.result c.deref.result.now place written)

pub returns-clause-says : goal.returns-clause-says
returns-clause-says g c =
    let d = g.D.Disk.seen c.args.disk.now in
    let written : c.deref.result.now ≡ behind_gate c.args.number c.args.items.now = c.deref.ensures.value ∙ c.in_ok-bytes.ensures.bytes in
    let place : c.area_at-place.result ≡ area_at (length d) c.args.which = c.area_at-place.ensures.place ∙ ap (λ (k : ℕ). area_at k c.args.which) c.size.ensures in
    says_at (length d) c.args.which c.args.number c.args.items.now d c.requires.large refl c.requires.which c.requires.closed c.requires.fits c.ranges.number.fits c.requires.short c.in_ok-bytes.ensures.stand c.requires.order
    c.area_at-place.result c.deref.result.now place written (g.D.Disk.seen c.commit.new.disk) c.in_ok-commit.ensures.committed

pub returns-clause-elsewhere : goal.returns-clause-elsewhere
returns-clause-elsewhere g c =
    let d = g.D.Disk.seen c.args.disk.now in
    let written : c.deref.result.now ≡ behind_gate c.args.number c.args.items.now = c.deref.ensures.value ∙ c.in_ok-bytes.ensures.bytes in
    let place : c.area_at-place.result ≡ area_at (length d) c.args.which = c.area_at-place.ensures.place ∙ ap (λ (k : ℕ). area_at k c.args.which) c.size.ensures in
    elsewhere_at (length d) c.args.which c.args.number c.args.items.now d c.requires.large refl c.requires.which c.requires.closed c.requires.fits c.ranges.number.fits c.requires.short c.in_ok-bytes.ensures.stand c.requires.order
    c.area_at-place.result c.deref.result.now place written (g.D.Disk.seen c.commit.new.disk) c.in_ok-commit.ensures.committed

pub returns-clause-any_moment : goal.returns-clause-any_moment
returns-clause-any_moment g c =
    let d = g.D.Disk.seen c.args.disk.now in
    let written : c.deref.result.now ≡ behind_gate c.args.number c.args.items.now = c.deref.ensures.value ∙ c.in_ok-bytes.ensures.bytes in
    let place : c.area_at-place.result ≡ area_at (length d) c.args.which = c.area_at-place.ensures.place ∙ ap (λ (k : ℕ). area_at k c.args.which) c.size.ensures in
    weaker g.D.Disk.moment g.D.Disk.left_since c.args.disk.now c.commit.new.disk _ (IsWriting (length d) c.args.which (area_with c.args.number c.args.items.now) d) c.commit.ensures.any_moment
    (stopped_at (length d) c.args.which c.args.number c.args.items.now d c.requires.large refl c.requires.which c.requires.closed c.requires.fits c.ranges.number.fits c.requires.short c.in_ok-bytes.ensures.stand c.requires.order
    c.area_at-place.result c.deref.result.now place written)

pub returns-in_err-commit-clause-read : goal.returns-in_err-commit-clause-read
returns-in_err-commit-clause-read g c =
    let d = g.D.Disk.seen c.args.disk.now in
    let written : c.deref.result.now ≡ behind_gate c.args.number c.args.items.now = c.deref.ensures.value ∙ c.in_ok-bytes.ensures.bytes in
    let place : c.area_at-place.result ≡ area_at (length d) c.args.which = c.area_at-place.ensures.place ∙ ap (λ (k : ℕ). area_at k c.args.which) c.size.ensures in
    stopped_at (length d) c.args.which c.args.number c.args.items.now d c.requires.large refl c.requires.which c.requires.closed c.requires.fits c.ranges.number.fits c.requires.short c.in_ok-bytes.ensures.stand c.requires.order
    c.area_at-place.result c.deref.result.now place written (g.D.Disk.seen c.commit.new.disk) c.commit.ensures.read

pub returns-clause-read : goal.returns-clause-read
returns-clause-read g c =
    let d = g.D.Disk.seen c.args.disk.now in
    let written : c.deref.result.now ≡ behind_gate c.args.number c.args.items.now = c.deref.ensures.value ∙ c.in_ok-bytes.ensures.bytes in
    let place : c.area_at-place.result ≡ area_at (length d) c.args.which = c.area_at-place.ensures.place ∙ ap (λ (k : ℕ). area_at k c.args.which) c.size.ensures in
    stopped_at (length d) c.args.which c.args.number c.args.items.now d c.requires.large refl c.requires.which c.requires.closed c.requires.fits c.ranges.number.fits c.requires.short c.in_ok-bytes.ensures.stand c.requires.order
    c.area_at-place.result c.deref.result.now place written (g.D.Disk.seen c.commit.new.disk) c.commit.ensures.read

pub returns-in_err-bytes-clause-read : goal.returns-in_err-bytes-clause-read
returns-in_err-bytes-clause-read g c =
    let d = g.D.Disk.seen c.args.disk.now in
    record { elsewhere = same_changes (area_at (length d) c.args.which) (area_size (length d)) d; inside = inl c.requires.closed }
