use Rattle.std.proofs.Common.{◌≡◌, ◌≤◌, length, drop}
use Rattle.disk_redo.specs.Changes.{applied, is_free}
use Rattle.disk_redo.specs.Moments.{ChangesBut}
use Rattle.disk_redo.proofs.making.finish.Given as goal

abbrev pub invariant-loop-range : goal.invariant-loop-range
invariant-loop-range g l =
    let disk = g.D.Disk in
    record {
      left : applied (drop l.range-index l.ranges) (disk.seen l.disk) ≡ applied l.ranges (disk.seen l.fn.disk);
      size : length (disk.seen l.disk) ≡ length (disk.seen l.fn.disk);
      goes_on : ChangesBut disk.seen disk.may_leave disk.moment disk.left_since (is_free l.ranges) l.fn.disk l.disk;
      later : disk.failed l.fn.disk ≤ disk.failed l.disk;
    }
