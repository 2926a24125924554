use Rattle.std.proofs.Common.{◌≡◌, ℕ, ◌==◌, ◌&&◌, not, filter, length}
use Rattle.master_waiting.proofs.locked_list.LockedSnapshots.remove_call.Given as goal

-- those that stay are the same
abbrev pub invariant-loop-index : goal.invariant-loop-index
invariant-loop-index l =
    filter (λ s. not ((l.client.0 == s.client) && (l.number == s.number))) l.self ≡ filter (λ s. not ((l.client.0 == s.client) && (l.number == s.number))) l.fn.self

abbrev pub decreases-loop-index : goal.decreases-loop-index
decreases-loop-index l = length l.self
