-- Whole lines, as they are read and kept.
use Rattle.std.proofs.Common.{◌≡◌, ◌<◌, ◌≤◌, ℕ, Bool, true, false, not, List, [], ◌∷◌, ◌++◌, length, Option, Some, None, inl, inr, refl, sym, ap, subst, ◌∙◌, arith}
use Rattle.std.specs.Prelude.{◌==◌, ◌↔◌, nat_le, nat_lt, if◌then◌else◌, codes}
use Rattle.std.specs.Str.{bytes_eq}
use Rattle.std.proofs.lemmas.Bool.Decides.{nat_tests}
use Rattle.std.proofs.lemmas.Bool.{false≢true}
use Rattle.std.proofs.lemmas.List.{append-nil, length-take, take_all, take-append-le}
use Rattle.std.proofs.lemmas.List.Elements.{All-nil, All-push}
use Rattle.std.proofs.lemmas.List.Splits.{slice_split_none, slice_split_at}
use lib.ListN.{length-append}
use Rattle.script.specs.Reading.{line_feed, lines_in, HasNoFeed, Gives, Loses}
use Rattle.script.proofs.Bytes.{loses_none, loses_one}
use Rattle.script.specs.Lines.{is_skipped, words_of}
use Rattle.serve_lines.specs.Input.{kept_of, ReadsWholeLine}
use Rattle.serve_lines.specs.Lines.{line_for, served_line_of}
use Rattle.serve_lines.specs.declared.lines.ServedLine.TheVariants.{Nothing, Room}

-- so much was read of a line of the known bytes, and this is kept of it
pub record HasKept (from to : Option (List ℕ)) (line : List ℕ) : Type 0 where
  pub text : List ℕ
  pub none : HasNoFeed text
  pub bytes : Loses from to text
  pub kept : line ≡ kept_of text

pub none_kept : (known : Option (List ℕ)) (line : List ℕ) → line ≡ [] → HasKept known known line
none_kept known line is = record { text = []; none = All-nil (λ c. (c == line_feed) ≡ false); bytes = loses_none known; kept = is }

pub few_kept : (from to : Option (List ℕ)) (line : List ℕ) → HasKept from to line → length line ≤ 8193
few_kept from to line h = omega (arith, ap length h.kept, length-take 8193 h.text)

-- keeping goes on by what was kept
kept_on : (text : List ℕ) (byte : ℕ) → kept_of (kept_of text ++ byte ∷ []) ≡ kept_of (text ++ byte ∷ [])
kept_on text byte = go (nat_le (length text) 8193) refl
  where
    go : (b : Bool) → nat_le (length text) 8193 ≡ b → kept_of (kept_of text ++ byte ∷ []) ≡ kept_of (text ++ byte ∷ [])
    go true few = ap (λ (l : List ℕ). kept_of (l ++ byte ∷ [])) (take_all 8193 text (grind (arith, nat_tests, few)))
    go false many =
        let long : 8193 ≤ length text = grind (arith, nat_tests, many) in
        take-append-le 8193 (kept_of text) (byte ∷ []) (omega (arith, length-take 8193 text))
        ∙ take_all 8193 (kept_of text) (omega (arith, length-take 8193 text))
        ∙ sym (take-append-le 8193 text (byte ∷ []) long)

pub one_kept : (from to last : Option (List ℕ)) (line after : List ℕ) (byte : ℕ) → HasKept from to line → Gives to last (Some byte) → (byte == 10) ≡ false → after ≡ kept_of (line ++ byte ∷ []) → HasKept from last after
one_kept from to last line after byte h gives is after_is = record {
  text = h.text ++ byte ∷ [];
  none = All-push (λ c. (c == line_feed) ≡ false) h.text byte h.none is;
  bytes = loses_one from to last h.text byte h.bytes gives;
  kept = after_is ∙ ap (λ (l : List ℕ). kept_of (l ++ byte ∷ [])) h.kept ∙ kept_on h.text byte;
}

no_feed : (text rest : List ℕ) → text ++ line_feed ∷ rest ≡ [] → ⊥
no_feed [] rest e = absurd (cc)
no_feed (x ∷ text) rest e = absurd (cc)

-- a line that ends at its line feed
pub whole_line : (from to last : Option (List ℕ)) (line : List ℕ) (byte : ℕ) → HasKept from to line → Gives to last (Some byte) → byte ≡ 10 → ReadsWholeLine from last line true
whole_line None to last line byte h gives is = tt
whole_line (Some xs) None last line byte h gives is = absurd h.bytes
whole_line (Some xs) (Some ys) None line byte h gives is = absurd gives
whole_line (Some xs) (Some ys) (Some zs) line byte h gives is =
    let all : xs ≡ h.text ++ line_feed ∷ zs = h.bytes ∙ ap (λ (l : List ℕ). h.text ++ l) (gives ∙ ap (λ (b : ℕ). b ∷ zs) is) in
    (λ none. no_feed h.text zs (sym all ∙ none), h.text, h.kept, inl (ap (λ (t : List ℕ). lines_in t) all ∙ slice_split_at (λ c. c == line_feed) h.text line_feed zs h.none refl))

none_left : (text line : List ℕ) → line ≡ kept_of text → line ≡ [] → text ≡ []
none_left [] line kept none = refl
none_left (x ∷ text) line kept none = absurd (omega (arith, ap length kept, ap length none, length-take 8193 (x ∷ text)))

-- the last line, which has no line feed, or no line
pub last_line : (from to last : Option (List ℕ)) (line : List ℕ) (is_there : Bool) → HasKept from to line → Gives to last None → (is_there ≡ false ↔ line ≡ []) → ReadsWholeLine from last line is_there
last_line None to last line is_there h gives empty = tt
last_line (Some xs) None last line is_there h gives empty = absurd h.bytes
last_line (Some xs) (Some ys) None line is_there h gives empty = absurd gives
last_line (Some xs) (Some ys) (Some zs) line is_there h gives empty = go is_there refl
  where
    all : xs ≡ h.text
    all = h.bytes ∙ ap (λ (l : List ℕ). h.text ++ l) gives.0 ∙ append-nil h.text

    some_kept : is_there ≡ true → h.text ≡ [] → ⊥
    some_kept there none = false≢true (sym (empty.1 (h.kept ∙ ap kept_of none)) ∙ there)

    go : (b : Bool) → is_there ≡ b → ReadsWholeLine (Some xs) (Some zs) line b
    go true there = (λ none. some_kept there (sym all ∙ none), h.text, h.kept, inr (ap (λ (t : List ℕ). lines_in t) all ∙ slice_split_none (λ c. c == line_feed) h.text h.none, gives.1))
    go false not_there = (all ∙ none_left h.text line h.kept (empty.0 not_there), gives.1)

-- whether nothing was kept
pub is_none : (line : List ℕ) (n : ℕ) (b : Bool) → n ≡ length line → b ≡ (n == 0) → (not b ≡ false ↔ line ≡ [])
is_none [] n b count is = (λ _. refl, λ _. ap not (is ∙ ap (λ (k : ℕ). k == 0) count))
is_none (x ∷ xs) n b count is =
    let more : (n == 0) ≡ false = grind (arith, nat_tests, count) in
    (λ h. absurd (false≢true (sym h ∙ ap not (is ∙ more))), λ (h : x ∷ xs ≡ []). absurd (cc h))

-- the same of what the reader gave
module _ (from to last : Option (List ℕ)) (line : List ℕ) (given : Option ℕ) (h : HasKept from to line) (gives : Gives to last given) where
  pub kept_with : (after : List ℕ) (byte : ℕ) → given ≡ Some byte → (byte == 10) ≡ false → after ≡ kept_of (line ++ byte ∷ []) → HasKept from last after
  kept_with after byte is other more = one_kept from to last line after byte h (subst (Gives to last) is gives) other more

  pub ended_with : (byte : ℕ) → given ≡ Some byte → byte ≡ 10 → ReadsWholeLine from last line true
  ended_with byte is feed = whole_line from to last line byte h (subst (Gives to last) is gives) feed

  pub ended : (is_there : Bool) → ((byte : ℕ) → given ≡ Some byte → ⊥) → (is_there ≡ false ↔ line ≡ []) → ReadsWholeLine from last line is_there
  ended is_there none empty = last_line from to last line is_there h (subst (Gives to last) (nothing given none) gives) empty
    where
      nothing : (o : Option ℕ) → ((byte : ℕ) → o ≡ Some byte → ⊥) → o ≡ None
      nothing None none = refl
      nothing (Some byte) none = absurd (none byte refl)

too_long : (text : List ℕ) → 8192 < length text → served_line_of text ≡ None
too_long text long =
    let over : nat_lt 8192 (length text) ≡ true = grind (arith, nat_tests) in
    ap (λ (b : Bool). if b then None else if bytes_eq text (codes "room") then Some Room else if is_skipped text then Some Nothing else line_for text (words_of text)) over

-- what is kept of a line asks for what the line asks for
pub kept_asks : (text : List ℕ) → served_line_of (kept_of text) ≡ served_line_of text
kept_asks text = go (nat_le (length text) 8192) refl
  where
    go : (b : Bool) → nat_le (length text) 8192 ≡ b → served_line_of (kept_of text) ≡ served_line_of text
    go true few = ap served_line_of (take_all 8193 text (grind (arith, nat_tests, few)))
    go false many =
        let long : 8192 < length text = grind (arith, nat_tests, many) in
        too_long (kept_of text) (omega (arith, length-take 8193 text, long)) ∙ sym (too_long text long)

-- one more byte is kept, or none where the line is too long
pub kept_more : (items after : List ℕ) (byte : ℕ) → length items ≤ 8192 → after ≡ items ++ byte ∷ [] → after ≡ kept_of (items ++ byte ∷ [])
kept_more items after byte few is = is ∙ sym (take_all 8193 (items ++ byte ∷ []) (omega (arith, length-append items (byte ∷ []))))

pub kept_as_it_was : (items : List ℕ) (byte : ℕ) → length items ≤ 8193 → (length items ≤ 8192 → ⊥) → items ≡ kept_of (items ++ byte ∷ [])
kept_as_it_was items byte few long =
    let many : 8193 ≤ length items = by_length (nat_le (length items) 8192) refl in
    sym (take-append-le 8193 items (byte ∷ []) many ∙ take_all 8193 items few)
  where
    by_length : (b : Bool) → nat_le (length items) 8192 ≡ b → 8193 ≤ length items
    by_length true less = absurd (long (grind (arith, nat_tests, less)))
    by_length false past = grind (arith, nat_tests, past)
