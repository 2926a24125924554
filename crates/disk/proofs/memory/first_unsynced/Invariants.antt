use Rattle.std.proofs.Common.{◌≡◌, ◌≤◌, drop, if◌then◌else◌}
use Rattle.disk.specs.Writes.{has_sync, unsynced}
use Rattle.disk.proofs.memory.first_unsynced.Given as goal

abbrev pub invariant-loop-i : goal.invariant-loop-i
invariant-loop-i g l =
    (unsynced l.fn.writes ≡ (if has_sync (drop l.i l.writes) then unsynced (drop l.i l.writes) else drop l.start l.writes))
    × (l.start ≤ l.i)
