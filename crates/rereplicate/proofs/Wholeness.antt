-- A chunk that lacks no replicas isn't cloned, and lacks none either where more servers are present and hold it.
use Rattle.std.proofs.Common.{◌≡◌, ℕ, zero, suc, ◌+◌, ◌-◌, ◌<◌, ◌≤◌, Bool, true, false, cond, ltb, eqb, ◌&&◌, List, [], ◌∷◌, length, length-append, refl, sym, ap, ◌∙◌, subst, Some, None, Option, is_some, arith}
use Rattle.std.specs.List.{filter_map, cons_option}
use Rattle.std.specs.Ordering.{nat_cmp}
use Rattle.std.specs.Cmp.{nat_cmp_total}
use Rattle.std.specs.FinMap.{get, insert, get-insert}
use Rattle.std.specs.FinMap.Entries.{find}
use Rattle.std.proofs.lemmas.Bool.Decides.{nat_tests}
use Rattle.std.proofs.lemmas.List.Elements.{filter_map-append}
use Rattle.chunk_table.specs.ChunkTable.{NumberTable, ChunkRow}
use Rattle.chunk_table.proofs.Lookups.{at_key}
use Rattle.rereplicate.specs.Servers.{Servers, HeldAt, first_numbers, held_from, current_at, current_holders}
use Rattle.rereplicate.specs.Clones.{Offer, missing_replicas, offer_in}
use Rattle.rereplicate.specs.Whole.{lacks, lacks_of, lacks_at}
use Rattle.rereplicate.proofs.Handles.{differ}

no_clone : (a e b : Bool) (c : Option Offer) → a && b ≡ false → cond (a && e && b) c None ≡ None
no_clone false e b c h = refl
no_clone true false b c h = refl
no_clone true true false c h = refl
no_clone true true true c h = cc

pub none_of : (known : Servers) (now k : ℕ) (o : Option ChunkRow) → lacks_of known k o ≡ false → offer_in known now k o ≡ None
none_of known now k None h = refl
none_of known now k (Some row) h = no_clone (ltb 0 row.granted) _ (ltb 0 (missing_replicas known k row)) _ h

-- what is true of the numbers below one and of that number
pub one_more : (P : ℕ → Type 0) (n : ℕ) → ((q : ℕ) → q < n → P q) → P n → (q : ℕ) → q < n + 1 → P q
one_more P n h here q lt =
    elim (eqb q n) as (λ b. eqb q n ≡ b → P q) [
      | true ↦ λ e. let same : n ≡ q = grind (arith, nat_tests) in subst P same here
      | false ↦ λ e. h q (grind (arith, nat_tests))
    ] refl

fewer : (goal a b : ℕ) (g : Bool) → a ≤ b → g && ltb 0 (goal - a) ≡ false → g && ltb 0 (goal - b) ≡ false
fewer goal a b false le h = refl
fewer goal a b true le h = grind (arith, nat_tests)

as_many : (o p : Option HeldAt) → (is_some o ≡ true → is_some p ≡ true) → length (cons_option o []) ≤ length (cons_option p [])
as_many None None h = omega arith
as_many None (Some y) h = omega arith
as_many (Some x) (Some y) h = omega arith
as_many (Some x) None h = let none = h refl in cc

-- each server that counts here counts there
more_held : (f g : ℕ → Option HeldAt) (n : ℕ) → ((s : ℕ) → s < n → is_some (f (s + 1)) ≡ true → is_some (g (s + 1)) ≡ true)
    → length (filter_map f (first_numbers n)) ≤ length (filter_map g (first_numbers n))
more_held f g zero h = omega arith
more_held f g (suc n) h =
    let next : n + 1 ≡ suc n = omega arith in
    let rest : length (filter_map f (first_numbers n)) ≤ length (filter_map g (first_numbers n)) = more_held f g n (λ s lt. h s (omega arith)) in
    let last : length (cons_option (f (suc n)) []) ≤ length (cons_option (g (suc n)) []) =
    as_many (f (suc n)) (g (suc n)) (subst (λ k. is_some (f k) ≡ true → is_some (g k) ≡ true) next (h n (omega arith))) in
    let a = ap length (filter_map-append f (first_numbers n) (suc n ∷ [])) ∙ length-append (filter_map f (first_numbers n)) (cons_option (f (suc n)) []) in
    let b = ap length (filter_map-append g (first_numbers n) (suc n ∷ [])) ∙ length-append (filter_map g (first_numbers n)) (cons_option (g (suc n)) []) in
    subst (λ x. x ≤ length (filter_map g (first_numbers (suc n)))) (sym a)
    (subst (λ x. length (filter_map f (first_numbers n)) + length (cons_option (f (suc n)) []) ≤ x) (sym b) (omega (arith, rest, last)))

-- Where each server that is present and current for these still is for those, a chunk doesn't come to lack replicas.
pub still_held : (known later : Servers) (k : ℕ) (row : ChunkRow) → later.count ≡ known.count
    → ((s : ℕ) → s < known.count → is_some (current_at known k row (s + 1)) ≡ true → is_some (current_at later k row (s + 1)) ≡ true)
    → lacks known k row ≡ false → lacks later k row ≡ false
still_held known later k row as_many more h =
    let le : length (current_holders known k row) ≤ length (current_holders later k row) =
    subst (λ n. length (current_holders known k row) ≤ length (filter_map (current_at later k row) (first_numbers n))) (sym as_many)
    (more_held (current_at known k row) (current_at later k row) known.count more) in
    fewer row.shape.goal (length (current_holders known k row)) (length (current_holders later k row)) (ltb 0 row.granted) le h

by_present : (a b : Bool) (o : Option HeldAt) → (a ≡ true → b ≡ true) → is_some (cond a o None) ≡ true → is_some (cond b o None) ≡ true
by_present true b o h there = let e : b ≡ true = h refl in subst (λ x. is_some (cond x o None) ≡ true) (sym e) there
by_present false b o h there = cc

-- where each server that was present still is
pub more_present : (known : Servers) (present : ℕ → Bool)
    → ((s : ℕ) → s < known.count → known.is_present (s + 1) ≡ true → present (s + 1) ≡ true)
    → (k : ℕ) (o : Option ChunkRow) → lacks_of known k o ≡ false → lacks_of (record known { is_present = present }) k o ≡ false
more_present known present more k None h = refl
more_present known present more k (Some row) h =
    still_held known (record known { is_present = present }) k row refl (λ s lt.
    by_present (known.is_present (s + 1)) (present (s + 1)) _ (more s lt)) h

-- where each server holds the version of the chunk that it held
pub same_versions : (known : Servers) (held : ℕ → ℕ → Option ℕ) (chunks : ℕ → ℕ) (k : ℕ) (o : Option ChunkRow)
    → ((s : ℕ) → held k s ≡ known.version_held k s)
    → lacks_of known k o ≡ false → lacks_of (record known { version_held = held; chunks_held = chunks }) k o ≡ false
same_versions known held chunks k None same h = refl
same_versions known held chunks k (Some row) same h =
    still_held known (record known { version_held = held; chunks_held = chunks }) k row refl (λ s lt.
    subst (λ v. is_some (cond (known.is_present (s + 1)) (held_from row.granted (s + 1) v) None) ≡ true) (sym (same (s + 1)))) h

not_some : {X : Type 0} (o : Option X) (x : X) → o ≡ Some x → o ≡ None → ⊥
not_some o x a b = let both : Some x ≡ None = sym a ∙ b in cc

-- none that isn't doubted with one more
pub undoubted : (doubted : NumberTable Unit) (handle k : ℕ) → get (insert doubted handle tt) k ≡ None → (get doubted k ≡ None) × (k ≡ handle → ⊥)
undoubted doubted handle k none =
    at_key (λ x o. o ≡ None → (get doubted x ≡ None) × (x ≡ handle → ⊥)) k handle (Some tt) (get doubted k) (λ e. absurd (not_some (Some tt) tt refl e)) (λ apart e. (e, apart))
    (sym (get-insert nat_cmp_total doubted handle tt k) ∙ none)

not_last : (q n : ℕ) → q < n + 1 → (q ≡ n → ⊥) → q < n
not_last q n lt apart =
    elim (eqb q n) as (λ b. eqb q n ≡ b → q < n) [
      | true ↦ λ e. absurd (apart (grind (arith, nat_tests)))
      | false ↦ λ e. grind (arith, nat_tests)
    ] refl

module _ (known : Servers) (chunks : NumberTable ChunkRow) (found after : NumberTable Unit) (n : ℕ) where
  -- the next chunk is doubted
  pub found_one : after ≡ insert found n tt → ((q : ℕ) → q < n → get found q ≡ None → lacks_at known chunks q ≡ false) → (q : ℕ) → q < n + 1 → get after q ≡ None → lacks_at known chunks q ≡ false
  found_one is h q lt none =
      let both = undoubted found n q (subst (λ (t : NumberTable Unit). get t q ≡ None) is none) in
      h q (not_last q n lt both.1) both.0

  -- or lacks no replicas
  pub found_none : after ≡ found → lacks_at known chunks n ≡ false → ((q : ℕ) → q < n → get found q ≡ None → lacks_at known chunks q ≡ false) → (q : ℕ) → q < n + 1 → get after q ≡ None → lacks_at known chunks q ≡ false
  found_none is e h q lt none = one_more (λ x. get found x ≡ None → lacks_at known chunks x ≡ false) n h (λ _. e) q lt (subst (λ (t : NumberTable Unit). get t q ≡ None) is none)

-- what isn't the first entry's key, nor that of one behind it
pub not_in : (q k : ℕ) (u : Unit {0}) (rest all : List (ℕ × Unit {0})) → all ≡ (k, u) ∷ rest → (q ≡ k → ⊥) → find nat_cmp q rest ≡ None → find nat_cmp q all ≡ None
not_in q k u rest all is apart none = ap (find nat_cmp q) is ∙ ap (λ b. cond b (Some u) (find nat_cmp q rest)) (differ q k apart) ∙ none
