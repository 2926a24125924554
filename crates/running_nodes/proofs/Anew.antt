-- How many seats go on as clients of new numbers, and which clients go on.
use Rattle.std.proofs.Common.{◌≡◌, ℕ, zero, suc, ◌+◌, ◌≤◌, ◌<◌, take, Bool, true, false, List, [], ◌∷◌, ◌++◌, length, refl, sym, ap, subst, ◌∙◌, arith, slice_set}
use Rattle.std.specs.Prelude.{Option, Some, None, All, IfSome, IsSome, get_or}
use Rattle.std.specs.Option.{option_map}
use Rattle.std.proofs.Math.Seq.{take-suc}
use Rattle.std.proofs.lemmas.List.Elements.{All-push}
use Rattle.cell_journal.specs.Identity.{Identity}
use Rattle.cell_seats.specs.ParkedNodes.{ParkedNodeState}
use Rattle.cell_seats.specs.Seats.{SeatState, GoesOver}
use Rattle.running_nodes.specs.Seatings.{AllGoOver}
use Rattle.running_nodes.specs.ParkedSeats.{ParkedSeatState, goes_anew, one_where, count_anew}

pub count_append : (xs ys : List ParkedSeatState) → count_anew (xs ++ ys) ≡ count_anew xs + count_anew ys
count_append [] ys = omega arith
count_append (x ∷ xs) ys =
    let sum : one_where (goes_anew x) + (count_anew xs + count_anew ys) ≡ one_where (goes_anew x) + count_anew xs + count_anew ys = omega arith in
    ap (λ (n : ℕ). one_where (goes_anew x) + n) (count_append xs ys) ∙ sum

one_at_most : (b : Bool) → one_where b ≤ 1
one_at_most true = omega arith
one_at_most false = omega arith

pub count_few : (xs : List ParkedSeatState) → count_anew xs ≤ length xs
count_few [] = omega arith
count_few (x ∷ xs) = omega (arith, one_at_most (goes_anew x), count_few xs)

one_more : (xs : List ParkedSeatState) (i : ℕ) (x : ParkedSeatState) → i < length xs → x ≡ get_or xs i x → take (i + 1) xs ≡ take i xs ++ x ∷ []
one_more xs i x within at = ap (λ n. take n xs) (let next : i + 1 ≡ suc i = omega arith in next) ∙ (take-suc xs i x within ∙ ap (λ (y : ParkedSeatState). take i xs ++ y ∷ []) (sym at))

pub count_one_more : (xs : List ParkedSeatState) (i : ℕ) (x : ParkedSeatState) → i < length xs → x ≡ get_or xs i x → goes_anew x ≡ true → count_anew (take (i + 1) xs) ≡ count_anew (take i xs) + 1
count_one_more xs i x within at anew =
    ap count_anew (one_more xs i x within at) ∙ (count_append (take i xs) (x ∷ []) ∙ ap (λ (b : Bool). count_anew (take i xs) + (one_where b + 0)) anew)

pub count_as_before : (xs : List ParkedSeatState) (i : ℕ) (x : ParkedSeatState) → i < length xs → x ≡ get_or xs i x → goes_anew x ≡ false → count_anew (take (i + 1) xs) ≡ count_anew (take i xs)
count_as_before xs i x within at stays =
    let none : count_anew (take i xs) + 0 ≡ count_anew (take i xs) = omega arith in
    ap count_anew (one_more xs i x within at) ∙ (count_append (take i xs) (x ∷ []) ∙ (ap (λ (b : Bool). count_anew (take i xs) + (one_where b + 0)) stays ∙ none))

pub clients_more : (xs : List ParkedSeatState) (i : ℕ) (x : ParkedSeatState) → i < length xs → x ≡ get_or xs i x → IsSome x.saw → All (λ s. IsSome s.saw) (take i xs) → All (λ s. IsSome s.saw) (take (i + 1) xs)
clients_more xs i x within at some all = subst (All (λ s. IsSome s.saw)) (sym (one_more xs i x within at)) (All-push (λ s. IsSome s.saw) (take i xs) x all some)

-- a flag that is set leaves the others
pub others_stay : (flags : List Bool) (i k : ℕ) (flag : Bool) → suc i ≤ k → get_or (slice_set flags i flag) k false ≡ get_or flags k false
others_stay [] i k flag past = refl
others_stay (f ∷ rest) zero zero flag past = absurd (omega (arith, past))
others_stay (f ∷ rest) zero (suc k) flag past = refl
others_stay (f ∷ rest) (suc i) zero flag past = absurd (omega (arith, past))
others_stay (f ∷ rest) (suc i) (suc k) flag past = others_stay rest i k flag (omega (arith, past))

-- one seat more goes over
pub one_over : (cell : Identity) (olds : List ParkedSeatState) (news : List SeatState) (old : ParkedSeatState) (new : SeatState) → AllGoOver cell olds news → GoesOver cell old.saw old.seat new
    → AllGoOver cell (olds ++ old ∷ []) (news ++ new ∷ [])
one_over cell [] [] old new all over = (over, tt)
one_over cell [] (n ∷ news) old new all over = absurd all
one_over cell (o ∷ olds) [] old new all over = absurd all
one_over cell (o ∷ olds) (n ∷ news) old new all over = (all.0, one_over cell olds news old new all.1 over)

-- how much a seat's client saw

abbrev saw_of : Option ParkedNodeState → Option ℕ
saw_of client = option_map (λ c. length c.history.items) client

some_saw : (p : ParkedSeatState) (o : Option ParkedNodeState) (c : ParkedNodeState) → p.saw ≡ saw_of o → o ≡ Some c → p.saw ≡ Some (length c.history.items)
some_saw p o c saw is = saw ∙ ap saw_of is

pub saw_count : (p : ParkedSeatState) (o : Option ParkedNodeState) (c : ParkedNodeState) (k : ℕ) → p.saw ≡ saw_of o → o ≡ Some c → IfSome p.saw (λ j. j ≡ k) → length c.history.items ≡ k
saw_count p o c k saw is count = subst (λ (x : Option ℕ). IfSome x (λ j. j ≡ k)) (some_saw p o c saw is) count

-- seats that go over

over_so : (cell : Identity) (p : ParkedSeatState) (s new : SeatState) (saw : Option ℕ) → s ≡ p.seat → p.saw ≡ saw → GoesOver cell saw s new → GoesOver cell p.saw p.seat new
over_so cell p s new saw same is over = subst (λ (o : Option ℕ). GoesOver cell o p.seat new) (sym is) (subst (λ (x : SeatState). GoesOver cell saw x new) same over)

pub client_over : (cell : Identity) (p : ParkedSeatState) (s new : SeatState) (o : Option ParkedNodeState) (c : ParkedNodeState) → s ≡ p.seat → p.saw ≡ saw_of o → o ≡ Some c
    → GoesOver cell (Some (length c.history.items)) s new → GoesOver cell p.saw p.seat new
client_over cell p s new o c same saw is over = over_so cell p s new (Some (length c.history.items)) same (some_saw p o c saw is) over

pub starts_over : (p : ParkedSeatState) (s new : SeatState) (o : Option ParkedNodeState) (cell : Identity) → s ≡ p.seat → p.saw ≡ saw_of o → o ≡ None → GoesOver cell None s new → GoesOver cell p.saw p.seat new
starts_over p s new o cell same saw is over = over_so cell p s new None same (saw ∙ ap saw_of is) over
