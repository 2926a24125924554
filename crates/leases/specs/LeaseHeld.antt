-- A lease as its primary sees it (section 3.1).
use Rattle.std.specs.Prelude.{ℕ, ◌+◌, Bool, nat_lt, if◌then◌else◌, ◌&&◌, List, [], ◌∷◌, max}

-- The version that was granted, the end that the master told, and the members, the primary among them.
pub record LeaseHeld : Type 0 where
  pub version : ℕ
  pub until : ℕ
  pub members : List ℕ

-- A held lease with the clock bound and the greatest moment that its primary has seen.
pub record HeldState : Type 0 where
  pub lease : LeaseHeld
  pub skew : ℕ
  pub latest : ℕ

-- a lease counts for its primary only before its end less the clock bound
abbrev pub counts_at : ℕ → LeaseHeld → ℕ → Bool
counts_at skew l now = nat_lt (now + skew) l.until

-- The end moves on only where the lease still counts and the new end is later.
abbrev pub extended : ℕ → LeaseHeld → ℕ → ℕ → LeaseHeld
extended skew l until now = if counts_at skew l now && nat_lt l.until until then record l { until = until } else l

-- the state at a moment; an earlier moment than the greatest changes nothing
abbrev pub at_moment : HeldState → ℕ → HeldState
at_moment s now = record s { latest = max s.latest now }

-- whether the lease counts by the greatest moment so far
abbrev pub counts : HeldState → Bool
counts s = counts_at s.skew s.lease s.latest

abbrev pub extended_if : HeldState → ℕ → HeldState
extended_if s until = record s { lease = extended s.skew s.lease until s.latest }

-- What is done with a held lease.
pub data HeldCall : Type 0 where
  Ask : (now : ℕ) → HeldCall
  Extend : (until now : ℕ) → HeldCall
  End : HeldCall

abbrev pub after_call : HeldState → HeldCall → HeldState
after_call s (Ask now) = at_moment s now
after_call s (Extend until now) = extended_if (at_moment s now) until
after_call s End = record s { lease = record s.lease { until = 0 } }

abbrev pub after_calls : HeldState → List HeldCall → HeldState
after_calls s [] = s
after_calls s (call ∷ rest) = after_calls (after_call s call) rest
