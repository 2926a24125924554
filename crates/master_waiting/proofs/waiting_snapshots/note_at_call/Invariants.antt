use Rattle.std.proofs.Common.{◌≡◌}
use Rattle.master_waiting.proofs.waiting_snapshots.note_at_call.Given as goal

-- each is seen as before
abbrev pub invariant-loop-snapshot : goal.invariant-loop-snapshot
invariant-loop-snapshot l = l.snapshot-items ≡ l.fn.snapshots.items
