-- A script's lines, as they are read one after the other.
use Rattle.std.proofs.Common.{◌≡◌, ◌<◌, ℕ, Bool, true, false, List, [], ◌∷◌, ◌++◌, ⊎_elim, length, Option, Some, None, ◌⊎◌, inl, inr, refl, sym, ap, subst, ◌∙◌, arith}
use Rattle.std.specs.Prelude.{◌==◌, IfSome}
use Rattle.std.specs.List.{onto_first}
use Rattle.std.proofs.lemmas.Bool.{false≢true}
use Rattle.std.proofs.lemmas.List.{append-nil, append_assoc}
use Rattle.std.proofs.lemmas.List.Elements.{All-head, All-tail}
use Rattle.std.proofs.lemmas.List.Splits.{slice_split_none, slice_split_at, slice_split-cons_no, length-slice_split}
use lib.ListN.{length-append}
use Rattle.script.specs.Reading.{line_feed, longest_line, lines_in, HasNoFeed, EndsLine, ReadsLine, AreRead, Leaves}

abbrev pub IsShort : List ℕ → Type 0
IsShort text = longest_line < length text → ⊥

-- the lines of a script whose first line was read
lines_after : (xs ys text : List ℕ) → IsShort text → HasNoFeed text → EndsLine xs ys text true → (lines_in xs ≡ text ∷ lines_in ys) ⊎ ((lines_in xs ≡ text ∷ []) × (ys ≡ []))
lines_after xs ys text short none ends = ⊎_elim
    (λ at. inl (ap (λ (t : List ℕ). lines_in t) at.0 ∙ slice_split_at (λ c. c == line_feed) text line_feed ys none refl))
    (λ rest. ⊎_elim
    (λ at. inr (ap (λ (t : List ℕ). lines_in t) at.0 ∙ slice_split_none (λ c. c == line_feed) text none, at.1))
    (λ long. absurd (short long.1)) rest)
    ends

no_feed : (line rest : List ℕ) → line ++ line_feed ∷ rest ≡ [] → ⊥
no_feed [] rest e = absurd (cc)
no_feed (x ∷ line) rest e = absurd (cc)

no_length : (line rest : List ℕ) → line ++ rest ≡ [] → longest_line < length line → ⊥
no_length [] rest e long = omega arith
no_length (x ∷ line) rest e long = absurd (cc)

-- where nothing is left, there is no line
nothing_left : (xs ys text : List ℕ) → xs ≡ [] → EndsLine xs ys text true → ⊥
nothing_left xs ys text is ends = ⊎_elim
    (λ at. no_feed text ys (sym at.0 ∙ is))
    (λ rest. ⊎_elim
    (λ at. false≢true (sym (at.2.1 (sym at.0 ∙ is))))
    (λ long. no_length text ys (sym long.0 ∙ is) long.1) rest)
    ends

pub at_end : (xs ys text : List ℕ) → EndsLine xs ys text false → xs ≡ []
at_end xs ys text ends = ⊎_elim
    (λ at. absurd (false≢true at.1))
    (λ rest. ⊎_elim (λ at. at.0 ∙ at.2.0 refl) (λ long. absurd (false≢true long.2)) rest)
    ends

pub leaves_all : (known : Option (List ℕ)) → Leaves known known []
leaves_all None = tt
leaves_all (Some xs) = inl refl

-- one more line was read
read_on : (xs ys zs : List ℕ) (texts : List (List ℕ)) (text : List ℕ) → AreRead xs texts ys → HasNoFeed text → EndsLine ys zs text true → IsShort text → AreRead xs (texts ++ text ∷ []) zs
read_on xs ys zs texts text h none ends short = ⊎_elim
    (λ at. ⊎_elim
    (λ next. inl (at ∙ (ap (λ (l : List (List ℕ)). texts ++ l) next ∙ sym (append_assoc texts (text ∷ []) (lines_in zs)))))
    (λ last. inr (at ∙ ap (λ (l : List (List ℕ)). texts ++ l) last.0, last.1))
    (lines_after ys zs text short none ends))
    (λ all. absurd (nothing_left ys zs text all.1 ends))
    h

pub leaves_on : (a b c : Option (List ℕ)) (texts : List (List ℕ)) (text : List ℕ) → Leaves a b texts → ReadsLine b c text true → IsShort text → Leaves a c (texts ++ text ∷ [])
leaves_on None b c texts text h r short = tt
leaves_on (Some xs) None c texts text h r short = absurd h
leaves_on (Some xs) (Some ys) None texts text h r short = absurd r
leaves_on (Some xs) (Some ys) (Some zs) texts text h r short = read_on xs ys zs texts text h r.0 r.1 short

-- the lines that are left
pub all_left : (xs ys : List ℕ) (texts : List (List ℕ)) → AreRead xs texts ys → (later : List (List ℕ)) × (lines_in xs ≡ texts ++ later)
all_left xs ys texts h = ⊎_elim (λ at. (lines_in ys, at)) (λ all. ([], all.0 ∙ sym (append-nil texts))) h

-- a list before the first byte at which lines end begins the first of them
record FirstLine (text rest : List ℕ) : Type 0 where
  pub part : List ℕ
  pub later : List (List ℕ)
  pub lines_are : lines_in (text ++ rest) ≡ (text ++ part) ∷ later

some_line : (rest : List ℕ) (lines : List (List ℕ)) → 0 < length lines → lines_in rest ≡ lines → FirstLine [] rest
some_line rest [] more is = absurd (omega arith)
some_line rest (part ∷ later) more is = record { part = part; later = later; lines_are = is }

first_line : (text rest : List ℕ) → HasNoFeed text → FirstLine text rest
first_line [] rest none = some_line rest (lines_in rest) (omega (arith, length-slice_split (λ c. c == line_feed) rest)) refl
first_line (x ∷ text) rest none =
    let f : FirstLine text rest = first_line text rest (All-tail (λ c. (c == line_feed) ≡ false) x text none) in
    record {
      part = f.part;
      later = f.later;
      lines_are = slice_split-cons_no (λ c. c == line_feed) x (text ++ rest) (All-head (λ c. (c == line_feed) ≡ false) x text none) ∙ ap (onto_first x) f.lines_are;
    }

-- what lines ask for; one that is too long asks for nothing
module _ {X : Type 0} (asked : List ℕ → Option X) (too_long : (text : List ℕ) → longest_line < length text → asked text ≡ None) where
  -- the line that is read next: the whole of it asks for what was read of it, and others follow
  record NextLine (xs text : List ℕ) : Type 0 where
    pub whole : List ℕ
    pub later : List (List ℕ)
    pub lines_are : lines_in xs ≡ whole ∷ later
    pub same : asked whole ≡ asked text

  next_line : (xs ys text : List ℕ) → HasNoFeed text → EndsLine xs ys text true → NextLine xs text
  next_line xs ys text none ends = ⊎_elim
      (λ at. record { whole = text; later = lines_in ys; lines_are = ap (λ (t : List ℕ). lines_in t) at.0 ∙ slice_split_at (λ c. c == line_feed) text line_feed ys none refl; same = refl })
      (λ rest. ⊎_elim
      (λ at. record { whole = text; later = []; lines_are = ap (λ (t : List ℕ). lines_in t) at.0 ∙ slice_split_none (λ c. c == line_feed) text none; same = refl })
      (λ long.
      let f : FirstLine text ys = first_line text ys none in
      record {
        whole = text ++ f.part;
        later = f.later;
        lines_are = ap (λ (t : List ℕ). lines_in t) long.0 ∙ f.lines_are;
        same = too_long (text ++ f.part) (omega (arith, long.1, length-append text f.part)) ∙ sym (too_long text long.1);
      }) rest)
      ends

  -- the lines that are left, the first of them read
  next_left : (xs ys zs : List ℕ) (texts : List (List ℕ)) (text : List ℕ) → AreRead xs texts ys → HasNoFeed text → EndsLine ys zs text true
      → (whole : List ℕ) × (later : List (List ℕ)) × (lines_in xs ≡ texts ++ whole ∷ later) × (asked whole ≡ asked text)
  next_left xs ys zs texts text h none ends = ⊎_elim
      (λ at.
      let n : NextLine ys text = next_line ys zs text none ends in
      (n.whole, n.later, at ∙ ap (λ (l : List (List ℕ)). texts ++ l) n.lines_are, n.same))
      (λ all. absurd (nothing_left ys zs text all.1 ends))
      h

  -- what a line asks for holds of the lines that are left
  pub stopped_next : (from to last : Option (List ℕ)) (texts : List (List ℕ)) (text : List ℕ) (Why : Option X → Type 0) (Next : List (List ℕ) → Type 0) → Leaves from to texts → ReadsLine to last text true
      → ((whole : List ℕ) (later : List (List ℕ)) → Why (asked whole) → Next (whole ∷ later)) → Why (asked text)
      → IfSome from (λ all. (later : List (List ℕ)) × (lines_in all ≡ texts ++ later) × Next later)
  stopped_next None to last texts text Why Next h r so why = tt
  stopped_next (Some xs) None last texts text Why Next h r so why = absurd h
  stopped_next (Some xs) (Some ys) None texts text Why Next h r so why = absurd r
  stopped_next (Some xs) (Some ys) (Some zs) texts text Why Next h r so why =
      let n = next_left xs ys zs texts text h r.0 r.1 in
      (n.0 ∷ n.1, n.2, so n.0 n.1 (subst (λ (l : Option X). Why l) (sym n.3) why))
