-- A checkpoint's items, read one by one.
use Rattle.std.proofs.Common.{◌≡◌, ℕ, ◌≤◌, true, List, [], ◌∷◌, ◌++◌, length, Option, None, Some, length-append, refl, sym, ap, subst, ◌∙◌, arith}
use Rattle.std.specs.List.{AllByRecursion}
use Rattle.log_records.specs.declared.record.Record.{Record}
use Rattle.oplog.specs.Entries.{entries, entry, open_entries, IsEntry}
use Rattle.oplog.specs.Order.{comes_next, is_checkpoint}
use Rattle.oplog.proofs.Orders.{checkpoint_next, checkpoint_push, last_of, last_pushed}
use Rattle.oplog.proofs.Parsing.{entries_begun, entries_cons, entries_go_on, entries_nil, entries_split, entry_len, entry_unique, open_cons, ReadEntries, ReadRecords}

-- what was read so far, in its order, and the last of it
pub record ReadItems (done : List Record) (last : Option Record) (rest bytes : List ℕ) : Type 0 where
  pub read : ReadEntries done rest bytes
  pub order : is_checkpoint done ≡ true
  pub last_is : last ≡ last_of done

pub items_begun : (bytes : List ℕ) → ReadItems [] None bytes bytes
items_begun bytes = record { read = entries_begun bytes; order = refl; last_is = refl }

pub items_go_on : (done : List Record) (last : Option Record) (rest bytes : List ℕ) (item : Record) (after : List ℕ) → ReadItems done last rest bytes → IsEntry item × (rest ≡ entry item ++ after) → comes_next last item ≡ true
    → ReadItems (done ++ item ∷ []) (Some item) after bytes
items_go_on done last rest bytes item after so_far found next = record {
  read = entries_go_on done rest bytes item after so_far.read found;
  order = checkpoint_push done item so_far.order (subst (λ (l : Option Record). comes_next l item ≡ true) so_far.last_is next);
  last_is = last_pushed done item;
}

in_later : (done later items : List Record) (rest : List ℕ) (item : Record) (after : List ℕ) → items ≡ done ++ later → rest ≡ entries later → AllByRecursion IsEntry later → is_checkpoint items ≡ true
    → IsEntry item × (rest ≡ entry item ++ after) → comes_next (last_of done) item ≡ true
in_later done [] items rest item after is e each ordered found =
    absurd (omega (arith, ap length (sym found.1 ∙ e ∙ entries_nil), length-append (entry item) after, entry_len item))
in_later done (r ∷ later) items rest item after is e each ordered found =
    let one = entry_unique item r after (entries later) found.0 each.0 (sym found.1 ∙ e ∙ entries_cons r later) in
    let there : is_checkpoint (done ++ r ∷ later) ≡ true = subst (λ (l : List Record). is_checkpoint l ≡ true) is ordered in
    subst (λ (x : Record). comes_next (last_of done) x ≡ true) (sym one.0) (checkpoint_next done r later there)

-- what stands next in a checkpoint may come next
pub next_in_order : (done items : List Record) (last : Option Record) (rest bytes : List ℕ) (item : Record) (after : List ℕ) → ReadItems done last rest bytes → AllByRecursion IsEntry items → is_checkpoint items ≡ true
    → bytes ≡ entries items → IsEntry item × (rest ≡ entry item ++ after) → comes_next last item ≡ true
next_in_order done items last rest bytes item after so_far each ordered e found =
    let split = entries_split done items rest so_far.read.each each (sym so_far.read.parts ∙ e) in
    subst (λ (l : Option Record). comes_next l item ≡ true) (sym so_far.last_is) (in_later done split.0 items rest item after split.1 split.2 split.3 ordered found)

-- each takes a byte at least
entries_many : (done : List Record) → length done ≤ length (entries done)
entries_many [] = omega arith
entries_many (r ∷ rest) = omega (arith, ap length (entries_cons r rest), length-append (entry r) (entries rest), entry_len r, entries_many rest)

pub open_many : (done : List Record) → length done ≤ length (open_entries done)
open_many [] = omega arith
open_many (r ∷ rest) = omega (
  arith,
  ap length (open_cons r rest []),
  length-append (open_entries (r ∷ rest)) [],
  length-append (entry r) (open_entries rest ++ []),
  length-append (open_entries rest) [],
  entry_len r,
  open_many rest,
)

pub items_few : (done : List Record) (rest bytes : List ℕ) → ReadEntries done rest bytes → length done ≤ length bytes
items_few done rest bytes so_far = omega (arith, ap length so_far.parts, length-append (entries done) rest, entries_many done)

pub records_few : (done : List Record) (rest bytes : List ℕ) → ReadRecords done rest bytes → length done ≤ length bytes
records_few done rest bytes so_far = omega (arith, ap length so_far.parts, length-append (open_entries done) rest, open_many done)
