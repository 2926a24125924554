use Rattle.std.proofs.Common.{◌≡◌, ◌+◌, ◌≤◌, ◌++◌, ℕ, Bool, List, length, drop}
use Rattle.std.specs.List.{flat_map}
use Rattle.disk.specs.Bytes.{put_at}
use Rattle.disk_redo.specs.Moments.{ChangesBut, Misses}
use Rattle.disk_redo.specs.Redo.{range_bytes, redo_bytes}
use Rattle.disk_redo.proofs.staging.write_ranges.Given as goal

abbrev pub invariant-loop-range : goal.invariant-loop-range
invariant-loop-range g l =
    let disk = g.D.Disk in
    record {
      written : (v : List ℕ) × (disk.seen l.disk ≡ put_at (disk.seen l.fn.disk) l.at v) × (v ++ flat_map range_bytes (drop l.range-index l.ranges) ≡ redo_bytes l.ranges) × (l.place ≡ l.at + length v);
      size : length (disk.seen l.disk) ≡ length (disk.seen l.fn.disk);
      goes_on : (start : _) (kept : ℕ → Bool) → Misses kept l.at (length (redo_bytes l.ranges))
          → ChangesBut disk.seen disk.may_leave disk.moment disk.left_since kept start l.fn.disk
          → ChangesBut disk.seen disk.may_leave disk.moment disk.left_since kept start l.disk;
      later : disk.failed l.fn.disk ≤ disk.failed l.disk;
    }
