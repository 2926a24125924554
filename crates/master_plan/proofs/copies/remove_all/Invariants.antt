use Rattle.std.proofs.Common.{◌≡◌, drop}
use Rattle.protocol.specs.Tables.{removed_all}
use Rattle.master_plan.proofs.copies.remove_all.Given as goal

-- what is left to remove gives what is wanted
abbrev pub invariant-loop-handle : goal.invariant-loop-handle
invariant-loop-handle l = removed_all l.attempts (drop l.handle-index l.handles) ≡ removed_all l.fn.attempts l.handles
