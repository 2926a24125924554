use Rattle.std.proofs.Common.{◌≡◌, ◌≤◌, ◌<◌, ℕ, Bool, true, length}
use Rattle.std.specs.Prelude.{slice_index}
use Rattle.disk_redo.specs.Moments.{ChangesBut}
use Rattle.store_disk.specs.Places.{slot_place}
use Rattle.store_disk.proofs.formatting.clear.Given as goal

abbrev pub invariant-loop-slot : goal.invariant-loop-slot
invariant-loop-slot g l =
    let disk = g.D.Disk in
    record {
      order : (place : ℕ) → 32 ≤ place → place < 49 → slice_index (disk.seen l.disk) place ≡ 0;
      free : (slot : ℕ) → slot < l.slot → slice_index (disk.seen l.disk) (slot_place l.layout.chunk l.layout.block slot) ≡ 0;
      size : length (disk.seen l.disk) ≡ length (disk.seen l.fn.disk);
      goes_on : (start : _) (kept : ℕ → Bool) → ((place : ℕ) → kept place ≡ true → place < 32)
          → ChangesBut disk.seen disk.may_leave disk.moment disk.left_since kept start l.fn.disk
          → ChangesBut disk.seen disk.may_leave disk.moment disk.left_since kept start l.disk;
      later : disk.failed l.fn.disk ≤ disk.failed l.disk;
    }
