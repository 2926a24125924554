-- Messages by their numbers.
use Rattle.std.proofs.Common.{◌≡◌, ◌≤◌, ◌<◌, ℕ, zero, suc, ◌+◌, ◌-◌, ◌/◌, List, [], ◌∷◌, ◌++◌, length, take, get_or, Option, Some, None, refl, sym, subst, ap, ◌∙◌, arith, append_assoc}
use Rattle.std.specs.Prelude.{slice_get}
use Rattle.std.specs.Option.{option_map}
use Rattle.std.proofs.lemmas.List.{append-nil, length-append, length-map, take_all}
use Rattle.messages.specs.declared.message.Message.{Message}
use Rattle.protocol.specs.Tables.{element_at}
use Rattle.protocol.specs.World.{numbered_from_1, stamped}
use Rattle.protocol_journal.specs.Journal.{Entry, with_messages, sent_after}
use Rattle.protocol_journal.specs.Rebased.{raised, all_raised}
use Rattle.protocol_journal.specs.Whole.{whole}
use Rattle.protocol_journal.proofs.CutJournals.{sent_whole}
use Rattle.cell_journal.specs.declared.counted_entry.CountedEntry.{CountedEntry}
use Rattle.cell_journal.specs.CountedEntries.{entries_in, sent_in, AreCounted, IsIn}

before_is : (before : ℕ) (rows : List CountedEntry) (place : ℕ) (d : CountedEntry) → AreCounted before rows → place < length rows → (get_or rows place d).before ≡ before + length (sent_in (take place rows))
before_is before [] place d h within = absurd (omega (arith, within))
before_is before (r ∷ rows) zero d h within = h.0 ∙ omega arith
before_is before (r ∷ rows) (suc place) d h within =
    before_is (before + length r.entry.out.sent) rows place d h.1 (omega (arith, within)) ∙ omega (arith, length-append r.entry.out.sent (sent_in (take place rows)))

pub some_row : (rows : List CountedEntry) (number : ℕ) → 0 < number → number ≤ length (sent_in rows) → 0 < length rows
some_row [] number h most = absurd (omega (arith, h, most))
some_row (r ∷ rows) number h most = omega arith

pub in_all : (rows : List CountedEntry) (number : ℕ) → number ≤ length (sent_in rows) → number ≤ length (sent_in (take (length rows) rows))
in_all rows number h = rw (take_all (length rows) rows (omega arith)) h

element_of_append : {X : Type 0} (xs ys : List X) (n : ℕ) → n < length xs → element_at (xs ++ ys) n ≡ slice_get xs n
element_of_append [] ys n h = absurd (omega (arith, h))
element_of_append (x ∷ xs) ys zero h = refl
element_of_append (x ∷ xs) ys (suc n) h = element_of_append xs ys n (omega (arith, h))

element_past : {X : Type 0} (xs ys : List X) (n : ℕ) → element_at (xs ++ ys) (length xs + n) ≡ element_at ys n
element_past [] ys n =
    let same : 0 + n ≡ n = omega arith in
    ap (element_at ys) same
element_past (x ∷ xs) ys n =
    let same : length (x ∷ xs) + n ≡ suc (length xs + n) = omega arith in
    ap (element_at (x ∷ xs ++ ys)) same ∙ element_past xs ys n

none_past : {X : Type 0} (xs : List X) (n : ℕ) → length xs ≤ n → element_at xs n ≡ None
none_past [] n h = refl
none_past (x ∷ xs) zero h = absurd (omega (arith, h))
none_past (x ∷ xs) (suc n) h = none_past xs n (omega (arith, h))

-- a message of a row: how far it is from the row's first
in_row : (rows : List CountedEntry) (place n : ℕ) (d : CountedEntry) → place < length rows → length (sent_in (take place rows)) ≤ n → n < length (sent_in (take (suc place) rows))
    → element_at (sent_in rows) n ≡ slice_get (get_or rows place d).entry.out.sent (n - length (sent_in (take place rows)))
in_row [] place n d within h until = absurd (omega (arith, within))
in_row (r ∷ rows) zero n d within h until =
    element_of_append r.entry.out.sent (sent_in rows) n (omega (arith, until, length-append r.entry.out.sent [])) ∙ ap (slice_get r.entry.out.sent) (omega (arith))
in_row (r ∷ rows) (suc place) n d within h until =
    let count = length r.entry.out.sent in
    let here = length-append r.entry.out.sent (sent_in (take place rows)) in
    let there = length-append r.entry.out.sent (sent_in (take (suc place) rows)) in
    let rest : n ≡ count + (n - count) = omega (arith, h, here) in
    ap (element_at (r.entry.out.sent ++ sent_in rows)) rest
    ∙ (element_past r.entry.out.sent (sent_in rows) (n - count)
    ∙ (in_row rows place (n - count) d (omega (arith, within)) (omega (arith, h, here)) (omega (arith, until, there, h, here))
    ∙ ap (slice_get (get_or rows place d).entry.out.sent) (omega (arith, h, here))))

pub before_at : (rows : List CountedEntry) (place : ℕ) (r : CountedEntry) → AreCounted 0 rows → place < length rows → r ≡ get_or rows place r → r.before ≡ length (sent_in (take place rows))
before_at rows place r h within is = ap (λ (x : CountedEntry). x.before) is ∙ (before_is 0 rows place r h within ∙ omega arith)

-- the middle of two places, where they are apart
pub between : (low high : ℕ) → 1 < high - low → (low < low + (high - low) / 2) × (low + (high - low) / 2 < high)
between low high h = (omega (arith, h), omega (arith, h))

pub begun_after : (rows : List CountedEntry) (place number : ℕ) (r : CountedEntry) → AreCounted 0 rows → place < length rows → r ≡ get_or rows place r → r.before < number → length (sent_in (take place rows)) < number
begun_after rows place number r h within is from = omega (arith, before_at rows place r h within is, from)

pub not_begun : (rows : List CountedEntry) (place number : ℕ) (r : CountedEntry) → AreCounted 0 rows → place < length rows → r ≡ get_or rows place r → number ≤ r.before → number ≤ length (sent_in (take place rows))
not_begun rows place number r h within is before = omega (arith, before_at rows place r h within is, before)

pub only_place : (rows : List CountedEntry) (number low high : ℕ) → low < high → high - low ≤ 1 → number ≤ length (sent_in (take high rows)) → number ≤ length (sent_in (take (suc low) rows))
only_place rows number low high apart near h =
    let same : high ≡ suc low = omega (arith, apart, near) in
    subst (λ n. number ≤ length (sent_in (take n rows))) same h

pub begins_before : (rows : List CountedEntry) (number place : ℕ) (r : CountedEntry) → AreCounted 0 rows → IsIn rows number place → r ≡ get_or rows place r → r.before ≤ number - 1
begins_before rows number place r h at is = omega (arith, before_at rows place r h at.within is, at.after)

numbered_before : {X : Type 0} (xs : List X) (n : ℕ) → 0 < n → numbered_from_1 xs n ≡ element_at xs (n - 1)
numbered_before xs zero h = absurd (omega (arith, h))
numbered_before xs (suc n) h = ap (element_at xs) (omega arith)

-- the message of a number in its row
pub got : (rows : List CountedEntry) (number place : ℕ) (r : CountedEntry) → AreCounted 0 rows → IsIn rows number place → r ≡ get_or rows place r
    → slice_get r.entry.out.sent (number - 1 - r.before) ≡ numbered_from_1 (sent_in rows) number
got rows number place r h at is =
    let first = before_at rows place r h at.within is in
    sym (numbered_before (sent_in rows) number (omega (arith, at.after))
    ∙ (in_row rows place (number - 1) r at.within (omega (arith, at.after)) (omega (arith, at.after, at.until))
    ∙ (ap (λ (x : CountedEntry). slice_get x.entry.out.sent (number - 1 - length (sent_in (take place rows)))) (sym is)
    ∙ ap (slice_get r.entry.out.sent) (omega (arith, first, at.after)))))

-- no message has a number past the last one's
pub not_sent : {X : Type 0} (xs : List X) (number : ℕ) → length xs < number → numbered_from_1 xs number ≡ None
not_sent xs number h = numbered_before xs number (omega (arith, h)) ∙ none_past xs (number - 1) (omega (arith, h))

stamped_append : (n : ℕ) (xs ys : List Message) → stamped n (xs ++ ys) ≡ stamped n xs ++ stamped (n + length xs) ys
stamped_append n [] ys = ap (λ k. stamped k ys) (omega arith)
stamped_append n (x ∷ xs) ys =
    ap (λ ms. record x { number = n } ∷ ms) (stamped_append (suc n) xs ys ∙ ap (λ k. stamped (suc n) xs ++ stamped k ys) (omega arith))

stamped_length : (n : ℕ) (xs : List Message) → length (stamped n xs) ≡ length xs
stamped_length n [] = refl
stamped_length n (x ∷ xs) = ap suc (stamped_length (suc n) xs)

stamped_at : (n : ℕ) (xs : List Message) (k : ℕ) → element_at (stamped n xs) k ≡ option_map (λ (m : Message). record m { number = n + k }) (element_at xs k)
stamped_at n [] k = refl
stamped_at n (x ∷ xs) zero = ap (λ j. Some (record x { number = j })) (omega arith)
stamped_at n (x ∷ xs) (suc k) = stamped_at (suc n) xs k ∙ ap (λ j. option_map (λ (m : Message). record m { number = j }) (element_at xs k)) (omega arith)

-- the rows' messages get the next numbers
sent_all : (before : List Message) (rows : List CountedEntry) → sent_after before (entries_in rows) ≡ before ++ stamped (suc (length before)) (sent_in rows)
sent_all before [] = sym (append-nil before)
sent_all before (r ∷ rows) =
    let own = stamped (suc (length before)) r.entry.out.sent in
    let count = length-append before own in
    let same : suc (length (before ++ own)) ≡ suc (length before) + length r.entry.out.sent = omega (arith, count, stamped_length (suc (length before)) r.entry.out.sent) in
    sent_all (with_messages before r.entry) rows
    ∙ (append_assoc before own (stamped (suc (length (before ++ own))) (sent_in rows))
    ∙ ap (λ ms. before ++ ms) (ap (λ k. own ++ stamped k (sent_in rows)) same ∙ sym (stamped_append (suc (length before)) r.entry.out.sent (sent_in rows))))

numbered_stamped : (xs : List Message) (number : ℕ) → numbered_from_1 (stamped 1 xs) number ≡ option_map (λ (m : Message). record m { number = number }) (numbered_from_1 xs number)
numbered_stamped xs zero = refl
numbered_stamped xs (suc k) = stamped_at 1 xs k ∙ ap (λ j. option_map (λ (m : Message). record m { number = j }) (element_at xs k)) (omega arith)

pub sent_count : (rows : List CountedEntry) → length (sent_after [] (entries_in rows)) ≡ length (sent_in rows)
sent_count rows = ap length (sent_all [] rows) ∙ stamped_length 1 (sent_in rows)

-- messages of the base, and those of the journal
pub sent_of_all : (base es : List Entry) → length (sent_after [] (whole base es)) ≡ length (sent_after [] base) + length (sent_after [] es)
sent_of_all base es =
    let earlier = sent_after [] base in
    ap length (sent_whole base es)
    ∙ (length-append earlier (all_raised (length earlier) (sent_after [] es))
    ∙ ap (λ (n : ℕ). length earlier + n) (length-map (sent_after [] es) (raised (length earlier))))

-- the message of a number, as it was sent
pub numbered : (rows : List CountedEntry) (number : ℕ) → numbered_from_1 (sent_after [] (entries_in rows)) number ≡ option_map (λ (m : Message). record m { number = number }) (numbered_from_1 (sent_in rows) number)
numbered rows number = ap (λ ms. numbered_from_1 ms number) (sent_all [] rows) ∙ numbered_stamped (sent_in rows) number
