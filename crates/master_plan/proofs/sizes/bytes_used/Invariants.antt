use Rattle.std.proofs.Common.{◌≡◌, take}
use Rattle.protocol.specs.Logged.{log_changed_by_all}
use Rattle.master_plan.specs.Changes.{changes_of}
use Rattle.master_plan.proofs.LogBytes.{disk_size}
use Rattle.master_plan.proofs.sizes.bytes_used.Given as goal

-- the bytes after the changes so far
abbrev pub invariant-loop-change : goal.invariant-loop-change
invariant-loop-change g l = l.used ≡ disk_size (log_changed_by_all (g.L.OperationLog.disk l.fn.log) (changes_of (take l.change-index l.changes)))
