-- Rows of which the last stay.
use Rattle.std.proofs.Common.{◌≡◌, ◌≤◌, ◌<◌, ℕ, zero, suc, ◌+◌, ◌-◌, Bool, true, false, List, [], ◌∷◌, ◌++◌, length, take, drop, get_or, slice_get, Option, Some, None, refl, sym, subst, ap, ◌∙◌, arith}
use Rattle.std.specs.Prelude.{max, ltb, leb, if◌then◌else◌}
use Rattle.std.specs.Option.{option_map}
use Rattle.std.proofs.Math.Nat.{le-max_right}
use Rattle.std.proofs.lemmas.Bool.{lt-ltb, le-ltb, le-leb, lt-leb, leb-true, leb-false}
use Rattle.std.proofs.lemmas.List.{drop-append-le, get_or-drop, length-append, take_all}
use Rattle.std.proofs.lemmas.Option.{slice_get-get_or, slice_get_within, get_or_from_slice_get}
use Rattle.messages.specs.declared.message.Message.{Message}
use Rattle.protocol.specs.World.{numbered_from_1}
use Rattle.protocol_journal.specs.Journal.{Entry, sent_after}
use Rattle.cell_journal.specs.declared.counted_entry.CountedEntry.{CountedEntry}
use Rattle.cell_journal.specs.declared.retention.Retention.{Retention}
use Rattle.cell_journal.specs.declared.retention.Retention.TheVariants.{Whole, Last}
use Rattle.cell_journal.specs.CountedEntries.{entries_in, sent_in, AreCounted}
use Rattle.cell_journal.specs.Retained.{gone_of, stays_of, Rows, first_of, HasRoom, kept_row, kept_sent, kept_entry, kept_message}
use Rattle.cell_journal.proofs.CountedEntries.{entries_count}
use Rattle.cell_journal.proofs.Numbers.{sent_count, numbered, before_at}

pub gone_within : (r : Retention) (n : ℕ) → gone_of r n ≤ n
gone_within Whole n = omega arith
gone_within (Last most) n = omega arith

-- one row stays at least
pub gone_few : (r : Retention) (n : ℕ) → gone_of r (suc n) ≤ n
gone_few Whole n = omega arith
gone_few (Last most) n = omega (arith, le-max_right most 1)

pub gone_more : (r : Retention) (n : ℕ) → gone_of r n < gone_of r (suc n) → gone_of r (suc n) ≡ suc (gone_of r n)
gone_more Whole n h = absurd (omega (arith, h))
gone_more (Last most) n h = omega (arith, h)

pub gone_still : (r : Retention) (n : ℕ) → gone_of r (suc n) ≤ gone_of r n → gone_of r (suc n) ≡ gone_of r n
gone_still Whole n h = refl
gone_still (Last most) n h = omega (arith, h)

drop_next : {X : Type 0} (xs : List X) (g : ℕ) → drop 1 (drop g xs) ≡ drop (suc g) xs
drop_next [] zero = refl
drop_next [] (suc g) = refl
drop_next (x ∷ xs) zero = refl
drop_next (x ∷ xs) (suc g) = drop_next xs g

-- a row more, where the first one that stays is let go, and where none is
pub pushed_past : (r : Retention) (all : List CountedEntry) (row : CountedEntry) → gone_of r (length all) < gone_of r (suc (length all))
    → drop 1 (drop (gone_of r (length all)) all) ++ row ∷ [] ≡ drop (gone_of r (length (all ++ row ∷ []))) (all ++ row ∷ [])
pushed_past r all row h =
    let g = gone_of r (length all) in
    let more = gone_more r (length all) h in
    let count : length (all ++ row ∷ []) ≡ suc (length all) = length-append all (row ∷ []) ∙ omega arith in
    let within : suc g ≤ length all = omega (arith, more, gone_few r (length all)) in
    let end : drop (suc g) (all ++ row ∷ []) ≡ drop (suc g) all ++ row ∷ [] = drop-append-le (suc g) all (row ∷ []) within in
    ap (λ (xs : List CountedEntry). xs ++ row ∷ []) (drop_next all g)
    ∙ (sym end ∙ ap (λ (k : ℕ). drop k (all ++ row ∷ [])) (sym (ap (gone_of r) count ∙ more)))

pub pushed_on : (r : Retention) (all : List CountedEntry) (row : CountedEntry) → gone_of r (suc (length all)) ≤ gone_of r (length all)
    → drop (gone_of r (length all)) all ++ row ∷ [] ≡ drop (gone_of r (length (all ++ row ∷ []))) (all ++ row ∷ [])
pushed_on r all row h =
    let g = gone_of r (length all) in
    let still = gone_still r (length all) h in
    let count : length (all ++ row ∷ []) ≡ suc (length all) = length-append all (row ∷ []) ∙ omega arith in
    let end : drop g (all ++ row ∷ []) ≡ drop g all ++ row ∷ [] = drop-append-le g all (row ∷ []) (gone_within r (length all)) in
    sym end ∙ ap (λ (k : ℕ). drop k (all ++ row ∷ [])) (sym (ap (gone_of r) count ∙ still))

-- a list's element behind the first so many
pub at_behind : {X : Type 0} (xs : List X) (g k : ℕ) (d : X) → g ≤ k → get_or (drop g xs) (k - g) d ≡ get_or xs k d
at_behind xs g k d h =
    let same : g + (k - g) ≡ k = omega (arith, h) in
    get_or-drop g xs (k - g) d ∙ ap (λ (n : ℕ). get_or xs n d) same

pub got_behind : {X : Type 0} (xs : List X) (g k : ℕ) → g ≤ k → slice_get (drop g xs) (k - g) ≡ slice_get xs k
got_behind [] zero k h = refl
got_behind [] (suc g) k h = refl
got_behind (x ∷ xs) zero k h = let same : k - 0 ≡ k = omega arith in ap (slice_get (x ∷ xs)) same
got_behind (x ∷ xs) (suc g) zero h = absurd (omega (arith, h))
got_behind (x ∷ xs) (suc g) (suc k) h =
    let same : suc k - suc g ≡ k - g = omega arith in
    ap (slice_get (drop g xs)) same ∙ got_behind xs g k (omega (arith, h))

-- a row that was let go, and one that stays
pub row_gone : (r : Rows) (place : ℕ) → place < first_of r → kept_row r place ≡ None
row_gone r place h = ap (λ (b : Bool). if b then None else slice_get r.all place) (lt-ltb place (first_of r) h)

pub row_stays : (r : Rows) (place : ℕ) → first_of r ≤ place → kept_row r place ≡ slice_get r.all place
row_stays r place h = ap (λ (b : Bool). if b then None else slice_get r.all place) (le-ltb place (first_of r) h)

pub entry_gone : (r : Retention) (entries : List Entry) (place : ℕ) → place < gone_of r (length entries) → kept_entry r entries place ≡ None
entry_gone r entries place h = ap (λ (b : Bool). if b then None else slice_get entries place) (lt-ltb place (gone_of r (length entries)) h)

pub entry_stays : (r : Retention) (entries : List Entry) (place : ℕ) → gone_of r (length entries) ≤ place → kept_entry r entries place ≡ slice_get entries place
entry_stays r entries place h = ap (λ (b : Bool). if b then None else slice_get entries place) (le-ltb place (gone_of r (length entries)) h)

-- an entry that stays is the one at its place
pub entry_is : (r : Retention) (entries : List Entry) (place : ℕ) (e : Entry) → kept_entry r entries place ≡ Some e → slice_get entries place ≡ Some e
entry_is r entries place e h = by_test (ltb place (gone_of r (length entries))) h
  where
    by_test : (b : Bool) → (if b then None else slice_get entries place) ≡ Some e → slice_get entries place ≡ Some e
    by_test true is = absurd (let none : None ≡ Some e = is in cc)
    by_test false is = is

pub message_is : (r : Retention) (entries : List Entry) (number : ℕ) (m : Message) → kept_message r entries number ≡ Some m → numbered_from_1 (sent_after [] entries) number ≡ Some m
message_is r entries number m h = by_test (leb number (length (sent_after [] (take (gone_of r (length entries)) entries)))) h
  where
    by_test : (b : Bool) → (if b then None else numbered_from_1 (sent_after [] entries) number) ≡ Some m → numbered_from_1 (sent_after [] entries) number ≡ Some m
    by_test true is = absurd (let none : None ≡ Some m = is in cc)
    by_test false is = is

-- where the whole journal stays, each entry and each message does
pub whole_entries : (entries : List Entry) (place : ℕ) → kept_entry Whole entries place ≡ slice_get entries place
whole_entries entries place = entry_stays Whole entries place (omega arith)

pub take_entries : (rows : List CountedEntry) (n : ℕ) → take n (entries_in rows) ≡ entries_in (take n rows)
take_entries [] zero = refl
take_entries [] (suc n) = refl
take_entries (r ∷ rows) zero = refl
take_entries (r ∷ rows) (suc n) = ap (λ (es : List Entry). r.entry ∷ es) (take_entries rows n)

-- where a journal stands in memory, what it gives by its rows
pub kept_entries : (r : Rows) (place : ℕ) → kept_entry r.retention (entries_in r.all) place ≡ option_map (λ (x : CountedEntry). x.entry) (kept_row r place)
kept_entries r place =
    ap (λ (n : ℕ). if ltb place (gone_of r.retention n) then None else slice_get (entries_in r.all) place) (entries_count r.all)
    ∙ (ap (λ (o : Option Entry). if ltb place (first_of r) then None else o) (entries_at r.all place) ∙ by_test (ltb place (first_of r)))
  where
    entries_at : (rows : List CountedEntry) (k : ℕ) → slice_get (entries_in rows) k ≡ option_map (λ (x : CountedEntry). x.entry) (slice_get rows k)
    entries_at [] k = refl
    entries_at (x ∷ rows) zero = refl
    entries_at (x ∷ rows) (suc k) = entries_at rows k

    by_test : (b : Bool) → (if b then None else option_map (λ (x : CountedEntry). x.entry) (slice_get r.all place))
        ≡ option_map (λ (x : CountedEntry). x.entry) (if b then None else slice_get r.all place)
    by_test true = refl
    by_test false = refl

-- a message that stays, under its number
pub kept_numbered : (r : Rows) (number : ℕ) → kept_message r.retention (entries_in r.all) number ≡ option_map (λ (m : Message). record m { number = number }) (kept_sent r number)
kept_numbered r number =
    ap (λ (n : ℕ). if leb number n then None else numbered_from_1 (sent_after [] (entries_in r.all)) number) gone
    ∙ (ap (λ (o : Option Message). if leb number (length (sent_in (take (first_of r) r.all))) then None else o) (numbered r.all number)
    ∙ by_test (leb number (length (sent_in (take (first_of r) r.all)))))
  where
    gone : length (sent_after [] (take (gone_of r.retention (length (entries_in r.all))) (entries_in r.all))) ≡ length (sent_in (take (first_of r) r.all))
    gone =
        ap (λ (n : ℕ). length (sent_after [] (take (gone_of r.retention n) (entries_in r.all)))) (entries_count r.all)
        ∙ (ap (λ (es : List Entry). length (sent_after [] es)) (take_entries r.all (first_of r)) ∙ sent_count (take (first_of r) r.all))

    by_test : (b : Bool) → (if b then None else option_map (λ (m : Message). record m { number = number }) (numbered_from_1 (sent_in r.all) number))
        ≡ option_map (λ (m : Message). record m { number = number }) (if b then None else numbered_from_1 (sent_in r.all) number)
    by_test true = refl
    by_test false = refl

pub sent_gone : (r : Rows) (number : ℕ) → number ≤ length (sent_in (take (first_of r) r.all)) → kept_sent r number ≡ None
sent_gone r number h = ap (λ (b : Bool). if b then None else numbered_from_1 (sent_in r.all) number) (le-leb number (length (sent_in (take (first_of r) r.all))) h)

pub sent_stays : (r : Rows) (number : ℕ) → length (sent_in (take (first_of r) r.all)) < number → kept_sent r number ≡ numbered_from_1 (sent_in r.all) number
sent_stays r number h = ap (λ (b : Bool). if b then None else numbered_from_1 (sent_in r.all) number) (lt-leb number (length (sent_in (take (first_of r) r.all))) h)

-- the first row that stays says how many messages the others sent
pub sent_before_first : (r : Rows) (row : CountedEntry) → AreCounted 0 r.all → Some row ≡ kept_row r (first_of r) → row.before ≡ length (sent_in (take (first_of r) r.all))
sent_before_first r row counted is =
    let found : slice_get r.all (first_of r) ≡ Some row = sym (is ∙ row_stays r (first_of r) (omega arith)) in
    let within : first_of r < length r.all = slice_get_within r.all (first_of r) row found in
    before_at r.all (first_of r) row counted within (sym (get_or_from_slice_get r.all (first_of r) row row found))

-- where no row stays there are none
pub none_sent : (r : Rows) → None ≡ kept_row r (first_of r) → length (sent_in (take (first_of r) r.all)) ≡ 0
none_sent r is = by_rows r.all refl
  where
    by_rows : (all : List CountedEntry) → r.all ≡ all → length (sent_in (take (first_of r) r.all)) ≡ 0
    by_rows [] none = ap (λ (rs : List CountedEntry). length (sent_in (take (first_of r) rs))) none ∙ ap (λ (rs : List CountedEntry). length (sent_in rs)) (take_all (first_of r) [] (omega arith))
    by_rows (x ∷ rest) some =
        let count : length r.all ≡ suc (length rest) = ap length some in
        let within : first_of r < length r.all = omega (arith, count, ap (gone_of r.retention) count, gone_few r.retention (length rest)) in
        absurd (let both : Some (get_or r.all (first_of r) x) ≡ None = sym (slice_get-get_or r.all (first_of r) x within) ∙ sym (is ∙ row_stays r (first_of r) (omega arith)) in cc)

-- a message that was sent by a row that stays is behind the first of these
pub first_within : (r : Rows) (number : ℕ) → length (sent_in (take (first_of r) r.all)) < number → number ≤ length (sent_in r.all) → first_of r < length r.all
first_within r number after most = by_test (leb (length r.all) (first_of r)) refl
  where
    by_test : (b : Bool) → leb (length r.all) (first_of r) ≡ b → first_of r < length r.all
    by_test true is =
        let all : take (first_of r) r.all ≡ r.all = take_all (first_of r) r.all (leb-true (length r.all) (first_of r) is) in
        absurd (omega (arith, after, most, ap (λ (rs : List CountedEntry). length (sent_in rs)) all))
    by_test false is = leb-false (length r.all) (first_of r) is

-- more rows to come take no less memory
pub stays_more : (r : Retention) (m n : ℕ) → m ≤ n → stays_of r m ≤ stays_of r n
stays_more Whole m n h = omega (arith, h)
stays_more (Last most) m n h = omega (arith, h)

pub room_less : (r : Rows) (n : ℕ) → 0 < n → HasRoom r n → HasRoom r 1
room_less r n some room = omega (arith, room, stays_more r.retention (length r.all + 1) (length r.all + n) (omega (arith, some)))

-- a row more, in memory that there is
pub room_after : (old new : Rows) (row : CountedEntry) (reserved : ℕ) → 0 < reserved → HasRoom old reserved
    → new.retention ≡ old.retention → new.all ≡ old.all ++ row ∷ [] → new.capacity ≡ old.capacity → HasRoom new (reserved - 1)
room_after old new row reserved some room retention all capacity =
    let longer : length new.all ≡ length old.all + 1 = ap length all ∙ length-append old.all (row ∷ []) in
    let count : length new.all + (reserved - 1) ≡ length old.all + reserved = omega (arith, longer, some) in
    let same : stays_of new.retention (length new.all + (reserved - 1)) ≡ stays_of old.retention (length old.all + reserved) =
    ap (λ (r : Retention). stays_of r (length new.all + (reserved - 1))) retention ∙ ap (stays_of old.retention) count in
    omega (arith, room, same, capacity)

pub room_fewer : (r : Rows) (n : ℕ) → HasRoom r n → HasRoom r (n - 1)
room_fewer r n room = omega (arith, room, stays_more r.retention (length r.all + (n - 1)) (length r.all + n) (omega arith))

pub room_kept : (old new : Rows) (n : ℕ) → new.retention ≡ old.retention → new.all ≡ old.all → old.capacity ≤ new.capacity → HasRoom old n → HasRoom new n
room_kept old new n retention all capacity room =
    let same : stays_of new.retention (length new.all + n) ≡ stays_of old.retention (length old.all + n) =
    ap (λ (r : Retention). stays_of r (length new.all + n)) retention ∙ ap (λ (rows : List CountedEntry). stays_of old.retention (length rows + n)) all in
    omega (arith, room, same, capacity)

-- no rows
pub room_none : (r : Rows) → r.all ≡ [] → HasRoom r 0
room_none r none = omega (arith, ap length none)

pub none_in : (rows : List CountedEntry) → rows ≡ [] → entries_in rows ≡ []
none_in rows none = ap entries_in none

pub none_counted : (rows : List CountedEntry) → rows ≡ [] → AreCounted 0 rows
none_counted rows none = subst (AreCounted 0) (sym none) tt

-- rows that stay after one more stands behind the others, and the first of them was let go
pub replaced : (r : Retention) (all more items now : List CountedEntry) (row : CountedEntry) (first gone count : ℕ) → items ≡ drop (gone_of r (length all)) all → count ≡ length all
    → more ≡ all ++ row ∷ [] → now ≡ drop 1 items ++ row ∷ [] → first ≡ gone_of r count → gone ≡ gone_of r (count + 1) → first < gone
    → (now ≡ drop (gone_of r (length more)) more) × (count + 1 ≡ length more)
replaced r all more items now row first gone count stay counted longer is first_is gone_is full =
    let before : gone_of r count ≡ gone_of r (length all) = ap (gone_of r) counted in
    let next : count + 1 ≡ suc (length all) = omega (arith, counted) in
    let past : gone_of r (length all) < gone_of r (suc (length all)) = omega (arith, full, first_is, gone_is, before, ap (gone_of r) next) in (
      is
          ∙ (ap (λ (xs : List CountedEntry). drop 1 xs ++ row ∷ []) stay
          ∙ (pushed_past r all row past ∙ ap (λ (xs : List CountedEntry). drop (gone_of r (length xs)) xs) (sym longer))),
      omega (arith, counted, ap length longer, length-append all (row ∷ [])),
    )

-- no fewer messages were sent by more rows
pub sent_more : (rows : List CountedEntry) (m n : ℕ) → m ≤ n → length (sent_in (take m rows)) ≤ length (sent_in (take n rows))
sent_more [] zero n h = omega arith
sent_more [] (suc m) zero h = absurd (omega (arith, h))
sent_more [] (suc m) (suc n) h = omega arith
sent_more (x ∷ rows) zero n h = omega arith
sent_more (x ∷ rows) (suc m) zero h = absurd (omega (arith, h))
sent_more (x ∷ rows) (suc m) (suc n) h =
    omega (arith, sent_more rows m n (omega (arith, h)), length-append x.entry.out.sent (sent_in (take m rows)), length-append x.entry.out.sent (sent_in (take n rows)))
