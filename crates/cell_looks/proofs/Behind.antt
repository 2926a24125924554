-- What the entries of journals have, the earliest journal first.
use Rattle.std.proofs.Common.{◌≡◌, ℕ, suc, ◌+◌, List, [], ◌∷◌, ◌++◌, map, Option, Some, refl, sym, ap, subst, ◌∙◌, append_assoc, arith}
use Rattle.std.specs.Prelude.{All, Contains}
use Rattle.std.specs.List.{flat_map}
use Rattle.std.specs.Option.{option_to_list}
use Rattle.std.proofs.lemmas.Grind.{flat_map-append}
use Rattle.std.proofs.lemmas.List.{append-nil, map-append}
use Rattle.std.proofs.lemmas.List.Elements.{All-nil, All-cons, All-pop}
use Rattle.protocol_journal.specs.Journal.{Entry}
use Rattle.protocol_journal.specs.Whole.{raised_entry}
use Rattle.cell_journal.specs.Identity.{Closed}
use Rattle.cell_journal.specs.WholeHistories.{whole_of}
use Rattle.cell_seats.specs.Journals.{AreBehind}

-- what these journals have, the last one of them first
abbrev pub behind : {Y : Type 0} → (Entry → List Y) → List Closed → List Y
behind part [] = []
behind part (j ∷ rest) = behind part rest ++ flat_map part j.entries

module _ {Y : Type 0} (part : Entry → List Y) where
  behind_more : (js : List Closed) (j : Closed) → behind part (js ++ j ∷ []) ≡ flat_map part j.entries ++ behind part js
  behind_more [] j = sym (append-nil (flat_map part j.entries))
  behind_more (x ∷ js) j = ap (λ l. l ++ flat_map part x.entries) (behind_more js j) ∙ append_assoc (flat_map part j.entries) (behind part js) (flat_map part x.entries)

  -- the earliest one is taken from the end
  pub taken : {X : Type 0} (f : X → Closed) (was now : List X) (x : X) → was ≡ now ++ x ∷ [] → behind part (map f was) ≡ flat_map part (f x).entries ++ behind part (map f now)
  taken f was now x is =
      ap (λ l. behind part (map f l)) is
      ∙ (ap (behind part) (map-append f now (x ∷ [])) ∙ behind_more (map f now) (f x))

  module _ (same : (before : ℕ) (e : Entry) → part (raised_entry before e) ≡ part e) where
    raised : (before : ℕ) (es : List Entry) → flat_map part (map (raised_entry before) es) ≡ flat_map part es
    raised before [] = refl
    raised before (e ∷ es) = ap (λ l. l ++ flat_map part (map (raised_entry before) es)) (same before e) ∙ ap (λ l. part e ++ l) (raised before es)

    whole_is : (j : Closed) → flat_map part (whole_of j) ≡ flat_map part j.cell.base ++ flat_map part j.entries
    whole_is j = flat_map-append part j.cell.base (map (raised_entry _) j.entries) ∙ ap (λ l. flat_map part j.cell.base ++ l) (raised _ j.entries)

    -- a journal with all before it has what the cell's whole history has
    pub behind_whole : (j : Closed) (earlier : List Closed) → AreBehind j.cell earlier → behind part (j ∷ earlier) ≡ flat_map part (whole_of j)
    behind_whole j [] none = sym (whole_is j ∙ ap (λ (es : List Entry). flat_map part es ++ flat_map part j.entries) none)
    behind_whole j (b ∷ rest) (base, name, more) =
        ap (λ l. l ++ flat_map part j.entries) (behind_whole b rest more ∙ ap (flat_map part) (sym base)) ∙ sym (whole_is j)

-- the last element of a list

pub popped_one : {X : Type 0} (was now : List X) (o : Option X) (x : X) → was ≡ now ++ option_to_list o → o ≡ Some x → was ≡ now ++ x ∷ []
popped_one was now o x is some = is ∙ ap (λ p. now ++ option_to_list p) some

pub popped_are : {X : Type 0} (P : X → Type 0) (was now : List X) (x : X) → was ≡ now ++ x ∷ [] → All P was → All P now × P x
popped_are P was now x is all = All-pop P was now (Some x) is all

-- a journal with those before it, one more of which is in a list
module _ {X : Type 0} (f : X → Closed) where
  pub listed_none : (items : List X) (all : List Closed) → items ≡ [] → map f items ++ all ≡ all
  listed_none items all none = ap (λ l. map f l ++ all) none

  pub listed_more : (was now : List X) (x : X) (rest left all : List Closed) → now ≡ was ++ x ∷ [] → rest ≡ left → map f was ++ f x ∷ rest ≡ all → map f now ++ left ≡ all
  listed_more was now x rest left all is same inv =
      ap (λ l. map f l ++ left) is
      ∙ (ap (λ l. l ++ left) (map-append f was (x ∷ []))
      ∙ (append_assoc (map f was) (f x ∷ []) left ∙ (ap (λ l. map f was ++ f x ∷ l) (sym same) ∙ inv)))

  pub listed_all : (was now : List X) (x : X) (rest all : List Closed) → now ≡ was ++ x ∷ [] → rest ≡ [] → map f was ++ f x ∷ rest ≡ all → map f now ≡ all
  listed_all was now x rest all is none inv = sym (append-nil (map f now)) ∙ listed_more was now x rest [] all is none inv

  contains_at : (before : List Closed) (x : Closed) (rest : List Closed) → Contains (before ++ x ∷ rest) x
  contains_at [] x rest = (0, omega arith, refl)
  contains_at (y ∷ before) x rest = let there = contains_at before x rest in (suc there.0, omega (arith, there.1), there.2)

  each_in : (before : List Closed) (items : List X) → All (λ y. Contains (before ++ map f items) (f y)) items
  each_in before [] = All-nil (λ y. Contains (before ++ map f []) (f y))
  each_in before (x ∷ xs) =
      All-cons (λ y. Contains (before ++ map f (x ∷ xs)) (f y)) x xs (contains_at before (f x) (map f xs))
      (subst (λ (l : List Closed). All (λ y. Contains l (f y)) xs) (append_assoc before (f x ∷ []) (map f xs)) (each_in (before ++ f x ∷ []) xs))

  -- each of the list is one of them
  pub each_of : (items : List X) (all : List Closed) → map f items ≡ all → All (λ y. Contains all (f y)) items
  each_of items all is = subst (λ (l : List Closed). All (λ y. Contains l (f y)) items) is (each_in [] items)
