-- What holds of a held lease over any list of calls, and of an extension of one (section 3.1).
use Rattle.std.specs.Prelude.{◌≡◌, ℕ, ◌≤◌, Bool, false, List}
use Rattle.leases.specs.LeaseHeld.{HeldState, HeldCall, at_moment, counts, extended_if, after_calls}

-- a lease that does not count never counts again, whatever calls and moments follow
abbrev pub NeverCountsAgain : Type 0
NeverCountsAgain = (s : HeldState) (calls : List HeldCall) (now : ℕ) → counts s ≡ false → counts (at_moment (after_calls s calls) now) ≡ false

-- an extension moves no end earlier
abbrev pub EndNeverMovesEarlier : Type 0
EndNeverMovesEarlier = (s : HeldState) (until now : ℕ) → s.lease.until ≤ (extended_if (at_moment s now) until).lease.until
