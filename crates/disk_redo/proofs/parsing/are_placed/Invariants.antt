use Rattle.std.proofs.Common.{◌≡◌, drop}
use Rattle.disk_redo.specs.Changes.{all_outside}
use Rattle.disk_redo.proofs.parsing.are_placed.Given as goal

abbrev pub invariant-loop-range : goal.invariant-loop-range
invariant-loop-range l = all_outside l.area l.size (drop l.range-index l.ranges) ≡ all_outside l.area l.size l.ranges
