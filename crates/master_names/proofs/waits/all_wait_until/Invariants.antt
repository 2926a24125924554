use Rattle.std.proofs.Common.{take}
use Rattle.master_waiting.specs.Due.{WaitAt}
use Rattle.master_names.proofs.waits.all_wait_until.Given as goal

-- those so far wait
abbrev pub invariant-loop-snapshot : goal.invariant-loop-snapshot
invariant-loop-snapshot g l = WaitAt l.plan.logged (take l.snapshot-index l.snapshots) l.until
