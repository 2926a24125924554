-- Numbers in digits, and files up to the first that stays.
use Rattle.std.proofs.Common.{◌≡◌, ℕ, ◌+◌, ◌-◌, ◌*◌, ◌<◌, ◌≤◌, List, [], ◌∷◌, map, drop, length, get_or, sym, ap, ◌∙◌, subst, Result, Ok, Err, IfOk, arith}
use Rattle.std.proofs.lemmas.List.{at_drop_more}
use Rattle.std.specs.Str.{byte}
use Rattle.gfs_types.specs.declared.ids.FileId.{FileId}
use Rattle.relaxed_file.specs.Names.{Node}
use Rattle.stale_collect.specs.Expiry.{number_from, before_none, old_at}

-- more digits make no number less
number_grows : (before : ℕ) (digits : List ℕ) → before ≤ number_from before digits
number_grows before [] = omega arith
number_grows before (c ∷ rest) = let more = number_grows (before * 10 + (c - byte "0")) rest in omega arith

-- a number that is past a limit before the last digit stays past it
pub past_all : (n limit : ℕ) (digits : List ℕ) (i : ℕ) → i < length digits → limit ≤ n * 10 + (get_or digits i 0 - byte "0")
    → number_from n (drop i digits) ≡ number_from 0 digits → limit ≤ number_from 0 digits
past_all n limit digits i lt past same =
    let more = number_grows (n * 10 + (get_or digits i 0 - byte "0")) (drop (i + 1) digits) in
    let split : number_from n (drop i digits) ≡ number_from (n * 10 + (get_or digits i 0 - byte "0")) (drop (i + 1) digits) = at_drop_more (number_from n) digits i 0 lt in
    omega arith

-- the old files among what stands below a directory
abbrev pub old_among : ℕ → ℕ → List (List ℕ × Node) → List FileId
old_among now keep_ms cs = before_none (map (λ c. old_at now keep_ms c.0 c.1) cs)

pub among_those : {X E : Type 0} (r : Result X E) (items : X → List FileId) (now keep_ms : ℕ) (cs others : List (List ℕ × Node))
    → IfOk r (λ f. items f ≡ old_among now keep_ms cs) → cs ≡ others → IfOk r (λ f. items f ≡ old_among now keep_ms others)
among_those (Ok f) items now keep_ms cs others h e = h ∙ ap (old_among now keep_ms) e
among_those (Err x) items now keep_ms cs others h e = tt
