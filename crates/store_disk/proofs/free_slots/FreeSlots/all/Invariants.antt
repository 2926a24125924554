use Rattle.std.proofs.Common.{◌≡◌, ◌-◌}
use Rattle.std.specs.List.{range_with_len}
use Rattle.store_disk.proofs.free_slots.FreeSlots.all.Given as goal

abbrev pub invariant-loop-done : goal.invariant-loop-done
invariant-loop-done l = l.slots.keys ≡ range_with_len (l.count - l.done) l.done
