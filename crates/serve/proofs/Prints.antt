-- What is printed, one thing behind the other.
use Rattle.std.proofs.Common.{◌≡◌, ℕ, suc, ◌+◌, ◌<◌, ◌≤◌, Bool, true, false, List, [], ◌∷◌, ◌++◌, length, get_or, set, take, drop, Option, Some, None, refl, sym, ap, subst, ◌∙◌, append_assoc, arith}
use Rattle.std.specs.Prelude.{slice_get, nat_eq, ◌==◌, if◌then◌else◌}
use Rattle.std.specs.List.{flat_map}
use Rattle.std.specs.Io.KnownBytes.{Appends, Keeps}
use Rattle.std.proofs.lemmas.Bool.Decides.{nat_tests}
use Rattle.std.proofs.lemmas.Grind.{flat_map-append}
use Rattle.std.proofs.lemmas.List.{append-nil, length-set}
use Rattle.std.proofs.lemmas.Option.{slice_get_within, get_or_from_slice_get}
use mathlib.Core.List.{IsPrefix}
use Rattle.gfs_types.specs.declared.answer.Answer.{Answer}
use Rattle.cell_looks.specs.ToldLines.{told_line}
use Rattle.cell_looks.proofs.Appending.{appends_twice}
use Rattle.serve.specs.Served.{Printed, Answers, Room, answers_to, printed_text, room_line}
use Rattle.serve.specs.Printing.{Stand, AreInOrder, GoesOn, PrintsOn}
use Rattle.serve.proofs.Places.{there, read_at, set_here, set_there}

either_way : (b : Bool) (x : Answer) (xs ys : List Answer) → (if b then x ∷ (xs ++ ys) else xs ++ ys) ≡ (if b then x ∷ xs else xs) ++ ys
either_way true x xs ys = refl
either_way false x xs ys = refl

answers_append : (client : ℕ) (xs ys : List Printed) → answers_to client (xs ++ ys) ≡ answers_to client xs ++ answers_to client ys
answers_append client [] ys = refl
answers_append client (Answers who answer ∷ rest) ys =
    ap (λ (l : List Answer). if who == client then answer ∷ l else l) (answers_append client rest ys) ∙ either_way (who == client) answer (answers_to client rest) (answers_to client ys)
answers_append client (Room steps ∷ rest) ys = answers_append client rest ys

keeps_none : (before after : Option (List ℕ)) → Keeps before after → Appends before after []
keeps_none None after keeps = tt
keeps_none (Some xs) None keeps = absurd keeps
keeps_none (Some xs) (Some ys) keeps = keeps ∙ sym (append-nil xs)

-- nothing was printed
goes_nowhere : (p q : Stand) → p ≡ q → GoesOn [] p q
goes_nowhere p q same = record { client = ap (λ (s : Stand). s.client) (sym same); answers = ap (λ (s : Stand). s.answers) (sym same) ∙ sym (append-nil p.answers) }

same_at : (xs : List Stand) (k : ℕ) (p q : Stand) → slice_get xs k ≡ Some p → slice_get xs k ≡ Some q → p ≡ q
same_at xs k p q here there' = let both : Some p ≡ Some q = sym here ∙ there' in cc both

pub prints_none : (stands : List Stand) (before after : Option (List ℕ)) → Keeps before after → PrintsOn stands stands before after
prints_none stands before after keeps = record {
  printed = [];
  text = keeps_none before after keeps;
  count = refl;
  each = λ k p q at to. goes_nowhere p q (same_at stands k p q at to);
}

goes_twice : (xs ys : List Printed) (p q r : Stand) → GoesOn xs p q → GoesOn ys q r → GoesOn (xs ++ ys) p r
goes_twice xs ys p q r one two = record {
  client = two.client ∙ one.client;
  answers = two.answers
      ∙ (ap (λ (n : ℕ). q.answers ++ answers_to n ys) one.client
      ∙ (ap (λ (l : List Answer). l ++ answers_to p.client ys) one.answers
      ∙ (append_assoc p.answers (answers_to p.client xs) (answers_to p.client ys) ∙ ap (λ (l : List Answer). p.answers ++ l) (sym (answers_append p.client xs ys)))));
}

pub prints_more : (one two three : List Stand) (x y z : Option (List ℕ)) → PrintsOn one two x y → PrintsOn two three y z → PrintsOn one three x z
prints_more one two three x y z first later = record {
  printed = first.printed ++ later.printed;
  text = subst (Appends x z) (sym (flat_map-append printed_text first.printed later.printed))
      (appends_twice x y z (flat_map printed_text first.printed) (flat_map printed_text later.printed) first.text later.text);
  count = later.count ∙ first.count;
  each = λ k p r at to.
      let mid = there two one k p first.count at in
      goes_twice first.printed later.printed p mid.0 r (first.each k p mid.0 at mid.1) (later.each k mid.0 r mid.1 to);
}

-- the room was printed
goes_on_with_room : (steps : ℕ) (p q : Stand) → p ≡ q → GoesOn (Room steps ∷ []) p q
goes_on_with_room steps p q same = record { client = ap (λ (s : Stand). s.client) (sym same); answers = ap (λ (s : Stand). s.answers) (sym same) ∙ sym (append-nil p.answers) }

pub prints_room : (stands : List Stand) (before after : Option (List ℕ)) (steps : ℕ) → Appends before after (room_line steps ++ 10 ∷ []) → PrintsOn stands stands before after
prints_room stands before after steps text = record {
  printed = Room steps ∷ [];
  text = subst (Appends before after) (sym (append-nil (room_line steps ++ 10 ∷ []))) text;
  count = refl;
  each = λ k p q at to. goes_on_with_room steps p q (same_at stands k p q at to);
}

-- an answer was printed
its_answer : (client : ℕ) (answer : Answer) (p q : Stand) → p.client ≡ client → q.client ≡ p.client → q.answers ≡ p.answers ++ answer ∷ [] → GoesOn (Answers client answer ∷ []) p q
its_answer client answer p q is same one =
    let yes : (client == p.client) ≡ true = grind (arith, nat_tests, is) in
    record { client = same; answers = one ∙ ap (λ (l : List Answer). p.answers ++ l) (sym (ap (λ (b : Bool). if b then answer ∷ [] else []) yes)) }

another_answer : (client : ℕ) (answer : Answer) (p q : Stand) → (p.client ≡ client → ⊥) → p ≡ q → GoesOn (Answers client answer ∷ []) p q
another_answer client answer p q other same =
    let no : (client == p.client) ≡ false = grind (arith, nat_tests, other) in
    record {
      client = ap (λ (s : Stand). s.client) (sym same);
      answers = ap (λ (s : Stand). s.answers) (sym same) ∙ (sym (append-nil p.answers) ∙ ap (λ (l : List Answer). p.answers ++ l) (sym (ap (λ (b : Bool). if b then answer ∷ [] else []) no)));
    }

pub prints_answer : (stands : List Stand) (place client : ℕ) (p q : Stand) (answer : Answer) (before after : Option (List ℕ)) → AreInOrder stands → slice_get stands place ≡ Some p → p.client ≡ client → q.client ≡ p.client
    → q.answers ≡ p.answers ++ answer ∷ [] → Appends before after (told_line client answer) → PrintsOn stands (set stands place q) before after
prints_answer stands place client p q answer before after order here is same one text = record {
  printed = Answers client answer ∷ [];
  text = subst (Appends before after) (sym (append-nil (told_line client answer))) text;
  count = length-set stands place q;
  each = each;
}
  where
    by_place : (k : ℕ) (old new : Stand) → slice_get stands k ≡ Some old → slice_get (set stands place q) k ≡ Some new → (b : Bool) → nat_eq k place ≡ b → GoesOn (Answers client answer ∷ []) old new
    by_place k old new at to true eq =
        let k_is : k ≡ place = grind (arith, nat_tests, eq) in
        let old_is : p ≡ old = (let both : Some p ≡ Some old = sym here ∙ (ap (slice_get stands) (sym k_is) ∙ at) in cc both) in
        let new_is : q ≡ new = (let both : Some q ≡ Some new = sym (set_here stands place q (slice_get_within stands place p here)) ∙ (ap (slice_get (set stands place q)) (sym k_is) ∙ to) in cc both) in
        subst (λ (s : Stand). GoesOn (Answers client answer ∷ []) s new) old_is (subst (GoesOn (Answers client answer ∷ []) p) new_is (its_answer client answer p q is same one))
    by_place k old new at to false ne =
        let apart : k ≡ place → ⊥ = λ same_place. absurd (let both : true ≡ false = sym (let e : nat_eq k place ≡ true = grind (arith, nat_tests, same_place) in e) ∙ ne in cc) in
        let other : old.client ≡ client → ⊥ = λ same_client. apart (let e : suc k ≡ suc place = sym (order k old at) ∙ (same_client ∙ (sym is ∙ order place p here)) in omega (arith, e)) in
        another_answer client answer old new other (let both : Some old ≡ Some new = sym at ∙ (sym (set_there stands place k q apart) ∙ to) in cc both)

    each : (k : ℕ) (old new : Stand) → slice_get stands k ≡ Some old → slice_get (set stands place q) k ≡ Some new → GoesOn (Answers client answer ∷ []) old new
    each k old new at to = by_place k old new at to (nat_eq k place) refl

-- each stays at its place
pub order_kept : (olds news : List Stand) (before after : Option (List ℕ)) → PrintsOn olds news before after → AreInOrder olds → AreInOrder news
order_kept olds news before after prints order k q at =
    let old = there olds news k q (sym prints.count) at in
    (prints.each k old.0 q old.1 at).client ∙ order k old.0 old.1

-- what one has seen, and what the one at a place has seen
abbrev pub Meets : List Stand → ℕ → ℕ → Stand → Type 0
Meets stands i k q = (p : Stand) → slice_get stands i ≡ Some p → length p.seen.items ≤ length q.seen.items → IsPrefix p.seen.items q.seen.items

pub meets_there : (stands : List Stand) (i : ℕ) (p q : Stand) → i < length stands → p ≡ get_or stands i p → (length p.seen.items ≤ length q.seen.items → IsPrefix p.seen.items q.seen.items) → (k : ℕ) → Meets stands i k q
meets_there stands i p q within is meet k r at = subst (λ (x : Stand). length x.seen.items ≤ length q.seen.items → IsPrefix x.seen.items q.seen.items) (same_at stands i p r (read_at stands i p within is) at) meet

-- as many answers were printed as this client was asked for calls
abbrev pub AsMany : List ℕ → ℕ → Stand → Type 0
AsMany asked k p = (count : ℕ) → slice_get asked k ≡ Some count → p.count ≡ count

pub as_many : (asked : List ℕ) (k : ℕ) (p : Stand) → get_or asked k 0 ≡ p.count → AsMany asked k p
as_many asked k p same count at = sym same ∙ get_or_from_slice_get asked k count 0 at

take_front : {X : Type 0} (xs ys : List X) → take (length xs) (xs ++ ys) ≡ xs
take_front [] ys = refl
take_front {X} (x ∷ xs) ys = ap (λ (l : List X). x ∷ l) (take_front xs ys)

pub written_back : {X : Type 0} (n : ℕ) (news olds : List X) → length news ≡ n → take n (news ++ drop (length news) olds) ≡ news
written_back n news olds h = subst (λ (m : ℕ). take m (news ++ drop (length news) olds) ≡ news) h (take_front news (drop (length news) olds))
