use Rattle.std.proofs.Common.{◌≡◌, ◌++◌, length}
use Rattle.std.specs.Slice.Iter.{iter_rest}
use Rattle.ordered_map.specs.Rising.{flat}
use Rattle.ordered_map.proofs.iter.IterIterator.next.Given as goal

-- what is left stays the same while no entry is given
abbrev pub invariant-loop-entry : goal.invariant-loop-entry
invariant-loop-entry g l = iter_rest l.self-inside.entries ++ flat l.self-inside.leaves ≡ iter_rest l.initial.self-inside.entries ++ flat l.initial.self-inside.leaves

abbrev pub decreases-loop-entry : goal.decreases-loop-entry
decreases-loop-entry g l = length l.self-inside.leaves
