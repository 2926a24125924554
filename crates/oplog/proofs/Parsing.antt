-- Entries are read in one way alone.
use Rattle.std.proofs.Common.{◌≡◌, ◌≢◌, ℕ, ◌+◌, ◌-◌, ◌<◌, ◌≤◌, false, List, [], ◌∷◌, ◌++◌, length, take, drop, Some, None, refl, sym, ap, subst, ◌∙◌, append_assoc, length-append, take-append-drop, arith}
use Rattle.std.proofs.lemmas.List.{take_at, drop_at, append-nil, nil_from_length, length-take-le}
use Rattle.std.specs.List.{AllByRecursion}
use Rattle.log_records.specs.declared.record.Record.{Record}
use Rattle.log_codec.specs.Fields.{number, index, IsNumber, IsIndex}
use Rattle.log_codec.specs.Payloads.{payload, is_item, IsRecord}
use Rattle.log_codec.specs.Records.{record_in}
use Rattle.log_codec.specs.Reading.{index_at, number_at}
use Rattle.log_codec.proofs.Fields.{IsBytes, number_is, index_is, some_is}
use Rattle.log_codec.proofs.Records.{record_again}
use Rattle.oplog.specs.Entries.{entry, entries, open_entries, IsEntry, IsLogged, HoldsRecords}

-- two lists with fronts of one length are the same only where both parts are
pub parts_same : (a b x y : List ℕ) → length a ≡ length b → a ++ x ≡ b ++ y → (a ≡ b) × (x ≡ y)
parts_same a b x y len e = (
  sym (take_at a x (length a) refl) ∙ ap (λ (l : List ℕ). take (length a) l) e ∙ take_at b y (length a) (sym len),
  sym (drop_at a x (length a) refl) ∙ ap (λ (l : List ℕ). drop (length a) l) e ∙ drop_at b y (length a) (sym len),
)

pub index_unique : (m n : ℕ) (x y : List ℕ) → IsIndex m → IsIndex n → index m ++ x ≡ index n ++ y → (m ≡ n) × (x ≡ y)
index_unique m n x y fm gn e =
    let both = some_is (m, x) (n, y) (sym (index_is.again m x fm) ∙ ap index_at e ∙ index_is.again n y gn) in
    (ap (λ (p : ℕ × List ℕ). p.0) both, ap (λ (p : ℕ × List ℕ). p.1) both)

pub number_unique : (m n : ℕ) (x y : List ℕ) → IsNumber m → IsNumber n → number m ++ x ≡ number n ++ y → (m ≡ n) × (x ≡ y)
number_unique m n x y fm gn e =
    let both = some_is (m, x) (n, y) (sym (number_is.again m x fm) ∙ ap number_at e ∙ number_is.again n y gn) in
    (ap (λ (p : ℕ × List ℕ). p.0) both, ap (λ (p : ℕ × List ℕ). p.1) both)

pub payload_unique : (r s : Record) → IsRecord r → IsRecord s → payload r ≡ payload s → r ≡ s
payload_unique r s fr fs e = some_is r s (sym (record_again r fr) ∙ ap record_in e ∙ record_again s fs)

pub entry_parts : (r : Record) (x : List ℕ) → entry r ++ x ≡ index (length (payload r)) ++ (payload r ++ x)
unfolding entry
entry_parts r x = append_assoc (index (length (payload r))) (payload r) x

-- the length that bytes begin with, where they are an entry
pub size_is : (bytes : List ℕ) (n : ℕ) (rest : List ℕ) (r : Record) (x : List ℕ) → index_at bytes ≡ Some (n, rest) → IsEntry r → bytes ≡ entry r ++ x → (n ≡ length (payload r)) × (rest ≡ payload r ++ x)
size_is bytes n rest r x h fits e =
    let both = some_is (n, rest) (length (payload r), payload r ++ x) (sym h ∙ ap index_at (e ∙ entry_parts r x) ∙ index_is.again (length (payload r)) (payload r ++ x) fits.1) in
    (ap (λ (p : ℕ × List ℕ). p.0) both, ap (λ (p : ℕ × List ℕ). p.1) both)

pub has_size : (bytes : List ℕ) (r : Record) (x : List ℕ) → index_at bytes ≡ None → IsEntry r → bytes ≡ entry r ++ x → ⊥
has_size bytes r x h fits e =
    let read : index_at bytes ≡ Some (length (payload r), payload r ++ x) = ap index_at (e ∙ entry_parts r x) ∙ index_is.again (length (payload r)) (payload r ++ x) fits.1 in
    cc

pub payload_is : (n : ℕ) (rest : List ℕ) (r : Record) (x : List ℕ) → n ≡ length (payload r) → rest ≡ payload r ++ x → take n rest ≡ payload r
payload_is n rest r x len e = ap (λ (l : List ℕ). take n l) e ∙ take_at (payload r) x n (sym len)

pub long_enough : (n : ℕ) (rest : List ℕ) (r : Record) (x : List ℕ) → n ≡ length (payload r) → rest ≡ payload r ++ x → n ≤ length rest
long_enough n rest r x len e = omega (arith, len, ap length e, length-append (payload r) x)

-- the length and the payload make an entry
pub entry_found : (bytes : List ℕ) (n : ℕ) (rest : List ℕ) (r : Record) → IsBytes bytes → index_at bytes ≡ Some (n, rest) → n ≤ length rest → IsRecord r → take n rest ≡ payload r → IsEntry r × (bytes ≡ entry r ++ drop n rest)
entry_found bytes n rest r fits h le is_record is =
    let t = index_is.takes bytes (n, rest) fits h in
    let len : n ≡ length (payload r) = sym (length-take-le n rest le) ∙ ap length is in (
      (is_record, subst (λ (k : ℕ). IsIndex k) len t.1),
      t.0.parts ∙ ap (λ (k : ℕ). index k ++ rest) len
          ∙ ap (λ (l : List ℕ). index (length (payload r)) ++ l) (sym (take-append-drop n rest) ∙ ap (λ (l : List ℕ). l ++ drop n rest) is)
          ∙ sym (entry_parts r (drop n rest)),
    )

pub entry_unique : (r s : Record) (x y : List ℕ) → IsEntry r → IsEntry s → entry r ++ x ≡ entry s ++ y → (r ≡ s) × (x ≡ y)
entry_unique r s x y fr fs e =
    let outer = index_unique (length (payload r)) (length (payload s)) (payload r ++ x) (payload s ++ y) fr.1 fs.1 (sym (entry_parts r x) ∙ e ∙ entry_parts s y) in
    let inner = parts_same (payload r) (payload s) x y outer.0 outer.1 in
    (payload_unique r s fr.0 fs.0 inner.0, inner.1)

pub entry_len : (r : Record) → length (entry r) ≡ 4 + length (payload r)
unfolding entry index
entry_len r = length-append (index (length (payload r))) (payload r)

pub all_push : {X : Type 0} (P : X → Type 0) (xs : List X) (x : X) → AllByRecursion P xs → P x → AllByRecursion P (xs ++ x ∷ [])
all_push P [] x all p = (p, tt)
all_push P (y ∷ xs) x all p = (all.0, all_push P xs x all.1 p)

-- ---- a checkpoint's items

-- what was read so far, and what is left
pub record ReadEntries (done : List Record) (rest bytes : List ℕ) : Type 0 where
  pub parts : bytes ≡ entries done ++ rest
  pub each : AllByRecursion IsEntry done

pub entries_begun : (bytes : List ℕ) → ReadEntries [] bytes bytes
unfolding entries
entries_begun bytes = record { parts = refl; each = tt }

entries_push : (done : List Record) (r : Record) (rest : List ℕ) → entries done ++ (entry r ++ rest) ≡ entries (done ++ r ∷ []) ++ rest
unfolding entries
entries_push [] r rest = ap (λ (l : List ℕ). l ++ rest) (sym (append-nil (entry r)))
entries_push (d ∷ ds) r rest =
    append_assoc (entry d) (entries ds) (entry r ++ rest) ∙ ap (λ (l : List ℕ). entry d ++ l) (entries_push ds r rest) ∙ sym (append_assoc (entry d) (entries (ds ++ r ∷ [])) rest)

pub entries_go_on : (done : List Record) (rest bytes : List ℕ) (r : Record) (after : List ℕ) → ReadEntries done rest bytes → IsEntry r × (rest ≡ entry r ++ after) → ReadEntries (done ++ r ∷ []) after bytes
entries_go_on done rest bytes r after so_far found = record {
  parts = so_far.parts ∙ ap (λ (l : List ℕ). entries done ++ l) found.1 ∙ entries_push done r after;
  each = all_push IsEntry done r so_far.each found.0;
}

pub entries_end : (done : List Record) (rest bytes : List ℕ) → ReadEntries done rest bytes → length rest ≡ 0 → bytes ≡ entries done
entries_end done rest bytes so_far none = so_far.parts ∙ ap (λ (l : List ℕ). entries done ++ l) (nil_from_length rest none) ∙ append-nil (entries done)

pub entries_split : (done items : List Record) (rest : List ℕ) → AllByRecursion IsEntry done → AllByRecursion IsEntry items → entries done ++ rest ≡ entries items
    → (later : List Record) × (items ≡ done ++ later) × (rest ≡ entries later) × AllByRecursion IsEntry later
unfolding entries
entries_split [] items rest fd fi e = (items, refl, e, fi)
entries_split (d ∷ ds) [] rest fd fi e =
    let none : length (entry d ++ entries ds ++ rest) ≡ 0 = ap length e in
    absurd (omega (arith, none, length-append (entry d ++ entries ds) rest, length-append (entry d) (entries ds), entry_len d))
entries_split (d ∷ ds) (i ∷ is) rest fd fi e =
    let one = entry_unique d i (entries ds ++ rest) (entries is) fd.0 fi.0 (sym (append_assoc (entry d) (entries ds) rest) ∙ e) in
    let more = entries_split ds is rest fd.1 fi.1 one.1 in
    (more.0, subst (λ (r : Record). r ∷ is ≡ d ∷ (ds ++ more.0)) one.0 (ap (λ (l : List Record). d ∷ l) more.1), more.2, more.3)

pub entries_nil : entries [] ≡ []
unfolding entries
entries_nil = refl

pub entries_cons : (r : Record) (rest : List Record) → entries (r ∷ rest) ≡ entry r ++ entries rest
unfolding entries
entries_cons r rest = refl

-- where bytes are left of a checkpoint, an entry comes next
first_of : (later : List Record) (rest : List ℕ) → rest ≡ entries later → AllByRecursion IsEntry later → 0 < length rest → (r : Record) × (x : List ℕ) × IsEntry r × (rest ≡ entry r ++ x)
first_of [] rest e each some = absurd (omega (arith, ap length (e ∙ entries_nil)))
first_of (r ∷ later) rest e each some = (r, entries later, each.0, e ∙ entries_cons r later)

pub next_entry : (done items : List Record) (rest bytes : List ℕ) → ReadEntries done rest bytes → AllByRecursion IsEntry items → bytes ≡ entries items → 0 < length rest
    → (r : Record) × (x : List ℕ) × IsEntry r × (rest ≡ entry r ++ x)
next_entry done items rest bytes so_far each e some =
    let split = entries_split done items rest so_far.each each (sym so_far.parts ∙ e) in
    first_of split.0 rest split.2 split.3 some

pub entries_unique : (xs ys : List Record) → AllByRecursion IsEntry xs → AllByRecursion IsEntry ys → entries xs ≡ entries ys → xs ≡ ys
unfolding entries
entries_unique [] [] fx fy e = refl
entries_unique [] (y ∷ ys) fx fy e = let none : 0 ≡ length (entry y ++ entries ys) = ap length e in absurd (omega (arith, none, length-append (entry y) (entries ys), entry_len y))
entries_unique (x ∷ xs) [] fx fy e = let none : length (entry x ++ entries xs) ≡ 0 = ap length e in absurd (omega (arith, none, length-append (entry x) (entries xs), entry_len x))
entries_unique (x ∷ xs) (y ∷ ys) fx fy e =
    let one = entry_unique x y (entries xs) (entries ys) fx.0 fy.0 e in
    subst (λ (r : Record). x ∷ xs ≡ r ∷ ys) one.0 (ap (λ (l : List Record). x ∷ l) (entries_unique xs ys fx.1 fy.1 one.1))

-- ---- records behind their gates

pub record ReadRecords (done : List Record) (rest bytes : List ℕ) : Type 0 where
  pub parts : bytes ≡ open_entries done ++ rest
  pub each : AllByRecursion IsLogged done

pub records_begun : (bytes : List ℕ) → ReadRecords [] bytes bytes
unfolding open_entries
records_begun bytes = record { parts = refl; each = tt }

pub records_push : (done : List Record) (r : Record) (rest : List ℕ) → open_entries done ++ 1 ∷ (entry r ++ rest) ≡ open_entries (done ++ r ∷ []) ++ rest
unfolding open_entries
records_push [] r rest = ap (λ (l : List ℕ). 1 ∷ (l ++ rest)) (sym (append-nil (entry r)))
records_push (d ∷ ds) r rest = ap (λ (l : List ℕ). 1 ∷ l)
    (append_assoc (entry d) (open_entries ds) (1 ∷ (entry r ++ rest)) ∙ ap (λ (l : List ℕ). entry d ++ l) (records_push ds r rest) ∙ sym (append_assoc (entry d) (open_entries (ds ++ r ∷ [])) rest))

pub records_go_on : (done : List Record) (rest bytes opened : List ℕ) (r : Record) (after : List ℕ) → ReadRecords done rest bytes → rest ≡ 1 ∷ opened → IsEntry r × (opened ≡ entry r ++ after) → is_item r ≡ false
    → ReadRecords (done ++ r ∷ []) after bytes
records_go_on done rest bytes opened r after so_far begins found no_item = record {
  parts = so_far.parts ∙ ap (λ (l : List ℕ). open_entries done ++ l) (begins ∙ ap (λ (l : List ℕ). 1 ∷ l) found.1) ∙ records_push done r after;
  each = all_push IsLogged done r so_far.each (found.0, no_item);
}

pub record Later (done records : List Record) (rest : List ℕ) (gate : ℕ) (behind : List ℕ) : Type 0 where
  pub later : List Record
  pub is : records ≡ done ++ later
  pub parts : rest ≡ open_entries later ++ gate ∷ behind
  pub each : AllByRecursion IsLogged later

pub same_head : (a b : ℕ) (x y : List ℕ) → a ∷ x ≡ b ∷ y → (a ≡ b) × (x ≡ y)
same_head a b x y e = (cc, cc)

pub records_split : (done records : List Record) (rest : List ℕ) (gate : ℕ) (behind : List ℕ) → gate ≢ 1 → AllByRecursion IsLogged done → AllByRecursion IsLogged records
    → open_entries done ++ rest ≡ open_entries records ++ gate ∷ behind → Later done records rest gate behind
unfolding open_entries
records_split [] records rest gate behind shut fd fr e = record { later = records; is = refl; parts = e; each = fr }
records_split (d ∷ ds) [] rest gate behind shut fd fr e = absurd (shut (sym (same_head 1 gate _ _ e).0))
records_split (d ∷ ds) (r ∷ rs) rest gate behind shut fd fr e =
    let tails = (same_head 1 1 _ _ e).1 in
    let one = entry_unique d r (open_entries ds ++ rest) (open_entries rs ++ gate ∷ behind) fd.0.0 fr.0.0
    (sym (append_assoc (entry d) (open_entries ds) rest) ∙ tails ∙ append_assoc (entry r) (open_entries rs) (gate ∷ behind)) in
    let more = records_split ds rs rest gate behind shut fd.1 fr.1 one.1 in
    record {
      later = more.later;
      is = subst (λ (x : Record). x ∷ rs ≡ d ∷ (ds ++ more.later)) one.0 (ap (λ (l : List Record). d ∷ l) more.is);
      parts = more.parts;
      each = more.each;
    }

pub split_of : (done records : List Record) (rest bytes : List ℕ) → ReadRecords done rest bytes → (holds : HoldsRecords records bytes) → Later done records rest holds.gate holds.rest
split_of done records rest bytes so_far holds = records_split done records rest holds.gate holds.rest holds.closed so_far.each holds.each (sym so_far.parts ∙ holds.parts)

pub open_nil : open_entries [] ≡ []
unfolding open_entries
open_nil = refl

pub open_cons : (r : Record) (rest : List Record) (x : List ℕ) → open_entries (r ∷ rest) ++ x ≡ 1 ∷ (entry r ++ (open_entries rest ++ x))
unfolding open_entries
open_cons r rest x = ap (λ (l : List ℕ). 1 ∷ l) (append_assoc (entry r) (open_entries rest) x)

next_of : (later : List Record) (gate : ℕ) (behind opened : List ℕ) → gate ≢ 1 → 1 ∷ opened ≡ open_entries later ++ gate ∷ behind → AllByRecursion IsLogged later
    → (r : Record) × (x : List ℕ) × IsLogged r × (opened ≡ entry r ++ x)
next_of [] gate behind opened shut e each = absurd (shut (sym (same_head 1 gate opened behind (e ∙ ap (λ (l : List ℕ). l ++ gate ∷ behind) open_nil)).0))
next_of (r ∷ later) gate behind opened shut e each = (r, open_entries later ++ gate ∷ behind, each.0, (same_head 1 1 opened _ (e ∙ open_cons r later (gate ∷ behind))).1)

-- behind an open gate a record comes next
pub next_record : (done records : List Record) (rest bytes opened : List ℕ) → ReadRecords done rest bytes → rest ≡ 1 ∷ opened → HoldsRecords records bytes
    → (r : Record) × (x : List ℕ) × IsLogged r × (opened ≡ entry r ++ x)
next_record done records rest bytes opened so_far begins holds =
    let split = split_of done records rest bytes so_far holds in
    next_of split.later holds.gate holds.rest opened holds.closed (sym begins ∙ split.parts) split.each

pub no_item_next : (done records : List Record) (rest bytes opened : List ℕ) (r : Record) (after : List ℕ) → ReadRecords done rest bytes → rest ≡ 1 ∷ opened → HoldsRecords records bytes
    → IsEntry r × (opened ≡ entry r ++ after) → is_item r ≡ false
no_item_next done records rest bytes opened r after so_far begins holds found =
    let next = next_record done records rest bytes opened so_far begins holds in
    let same = entry_unique next.0 r next.1 after next.2.0 found.0 (sym next.3 ∙ found.1) in
    subst (λ (x : Record). is_item x ≡ false) same.0 next.2.1

-- the bytes don't end before a closed gate
pub gate_is_left : (done records : List Record) (rest bytes : List ℕ) → ReadRecords done rest bytes → HoldsRecords records bytes → 0 < length rest
gate_is_left done records rest bytes so_far holds =
    let split = split_of done records rest bytes so_far holds in
    omega (arith, ap length split.parts, length-append (open_entries split.later) (holds.gate ∷ holds.rest))

pub holds : (done : List Record) (rest bytes : List ℕ) (gate : ℕ) (behind : List ℕ) → ReadRecords done rest bytes → rest ≡ gate ∷ behind → gate ≢ 1 → HoldsRecords done bytes
holds done rest bytes gate behind so_far begins shut = record { gate = gate; rest = behind; parts = so_far.parts ∙ ap (λ (l : List ℕ). open_entries done ++ l) begins; closed = shut; each = so_far.each }

pub records_end : (done : List Record) (rest bytes : List ℕ) → ReadRecords done rest bytes → length bytes - length rest ≡ length (open_entries done)
records_end done rest bytes so_far = omega (arith, ap length so_far.parts, length-append (open_entries done) rest)

nothing_later : (done later : List Record) (gate : ℕ) (behind : List ℕ) (g : ℕ) (b : List ℕ) → gate ≢ 1 → gate ∷ behind ≡ open_entries later ++ g ∷ b → done ++ later ≡ done
nothing_later done [] gate behind g b shut e = append-nil done
nothing_later done (r ∷ later) gate behind g b shut e = absurd (shut (same_head gate 1 behind _ (e ∙ open_cons r later (g ∷ b))).0)

pub records_unique : (xs ys : List Record) (bytes : List ℕ) → HoldsRecords xs bytes → HoldsRecords ys bytes → xs ≡ ys
records_unique xs ys bytes hx hy =
    let split = records_split xs ys (hx.gate ∷ hx.rest) hy.gate hy.rest hy.closed hx.each hy.each (sym hx.parts ∙ hy.parts) in
    sym (split.is ∙ nothing_later xs split.later hx.gate hx.rest hy.gate hy.rest hx.closed split.parts)

pub number_len : (n : ℕ) → length (number n) ≡ 8
unfolding number
number_len n = refl

pub index_len : (n : ℕ) → length (index n) ≡ 4
unfolding index
index_len n = refl

pub opened_more : (records : List Record) (r : Record) → length (open_entries (records ++ r ∷ [])) ≡ length (open_entries records) + 1 + length (entry r)
opened_more records r = omega (
  arith,
  ap length (records_push records r []),
  length-append (open_entries records) (1 ∷ (entry r ++ [])),
  length-append (entry r) [],
  length-append (open_entries (records ++ r ∷ [])) [],
)
