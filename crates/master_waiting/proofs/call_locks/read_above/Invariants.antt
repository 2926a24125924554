use denote.Shadow.{shadow}
use denote.Text.{Utf8}
use Rattle.std.proofs.Common.{◌≡◌, ◌-◌, ◌++◌, map, length}
use Rattle.master_waiting.specs.CallLocks.{above, ancestors, reading}
use Rattle.master_waiting.proofs.call_locks.read_above.Given as goal

-- what is left completes the locks
abbrev pub invariant-loop-depth : goal.invariant-loop-depth
invariant-loop-depth l =
    shadow (Utf8 l.at) × (l.locks.items ++ map reading (above (length l.path - l.depth) l.at) ≡ l.fn.locks.items ++ map reading (ancestors l.path))
