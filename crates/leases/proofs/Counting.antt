-- A lease that does not count stays so.
use Rattle.std.proofs.Common.{◌≡◌, ℕ, ◌+◌, ◌<◌, ◌≤◌, Bool, true, false, cond, ltb, ◌&&◌, List, [], ◌∷◌, refl, max, arith}
use Rattle.std.proofs.lemmas.Bool.Decides.{nat_tests}
use Rattle.leases.specs.LeaseHeld.{LeaseHeld, HeldState, HeldCall, Ask, Extend, End, at_moment, counts, extended_if, after_call, after_calls}

not_before : (a b : ℕ) → ltb a b ≡ false → b ≤ a
not_before a b e = grind (arith, nat_tests)

is_not_before : (a b : ℕ) → b ≤ a → ltb a b ≡ false
is_not_before a b h = grind (arith, nat_tests)

pub over_later : (s : HeldState) (now : ℕ) → counts s ≡ false → counts (at_moment s now) ≡ false
over_later s now e =
    let h = not_before (s.latest + s.skew) s.lease.until e in
    is_not_before (max s.latest now + s.skew) s.lease.until (omega arith)

kept_if : (s : HeldState) (until : ℕ) (b : Bool) → counts s ≡ b → b ≡ false → counts (record s { lease = cond (b && ltb s.lease.until until) (record s.lease { until = until }) s.lease }) ≡ false
kept_if s until true e f = cc
kept_if s until false e f = e

over_after : (s : HeldState) (call : HeldCall) → counts s ≡ false → counts (after_call s call) ≡ false
over_after s (Ask now) e = over_later s now e
over_after s (Extend until now) e = kept_if (at_moment s now) until (counts (at_moment s now)) refl (over_later s now e)
over_after s End e = is_not_before (s.latest + s.skew) 0 (omega arith)

over_all : (calls : List HeldCall) (s : HeldState) → counts s ≡ false → counts (after_calls s calls) ≡ false
over_all [] s e = e
over_all (call ∷ rest) s e = over_all rest (after_call s call) (over_after s call e)

pub never_again : (s : HeldState) (calls : List HeldCall) (now : ℕ) → counts s ≡ false → counts (at_moment (after_calls s calls) now) ≡ false
never_again s calls now e = over_later (after_calls s calls) now (over_all calls s e)

moved_if : (s : HeldState) (until : ℕ) (b c : Bool) → ltb s.lease.until until ≡ c → s.lease.until ≤ (cond (b && c) (record s.lease { until = until }) s.lease).until
moved_if s until true true e = (let lt : s.lease.until < until = grind (arith, nat_tests) in omega arith)
moved_if s until true false e = omega arith
moved_if s until false c e = omega arith

pub not_earlier : (s : HeldState) (until now : ℕ) → s.lease.until ≤ (extended_if (at_moment s now) until).lease.until
not_earlier s until now = moved_if (at_moment s now) until (counts (at_moment s now)) (ltb s.lease.until until) refl
