-- How the sizes of a log grow.
use Rattle.std.proofs.Common.{◌≡◌, ℕ, ◌+◌, ◌≤◌, List, [], ◌∷◌, ◌++◌, length, refl, sym, ap, ◌∙◌, arith}
use Rattle.std.specs.Prelude.{nat_le}
use Rattle.std.specs.List.{sum_by}
use Rattle.std.proofs.lemmas.List.{length-append}
use Rattle.std.proofs.lemmas.List.Sums.{sum_by_push, sum_by-cons}
use Rattle.log_records.specs.declared.record.Record.{Record}
use Rattle.protocol.specs.LogSizes.{payload_size, checkpoint_size, used_size, area_size, checkpoint_fits}

abbrev record_room : Record → ℕ
record_room r = 5 + payload_size r

abbrev item_room : Record → ℕ
item_room r = 4 + payload_size r

-- one record more
pub record_push : (used : ℕ) (items records : List Record) (r : Record) → used ≡ used_size items records → used + (5 + payload_size r) ≡ used_size items (records ++ r ∷ [])
record_push used items records r is = omega (arith, is, sum_by_push record_room records r)

-- one item more
pub item_push : (written : ℕ) (items : List Record) (r : Record) → written ≡ 13 + checkpoint_size items → written + (4 + payload_size r) ≡ 13 + checkpoint_size (items ++ r ∷ [])
item_push written items r is = omega (arith, is, sum_by_push item_room items r)

pub item_fits : (log_bytes written : ℕ) (items : List Record) (r : Record) → written ≡ 13 + checkpoint_size items
    → nat_le (written + (4 + payload_size r) + 1) (area_size log_bytes) ≡ checkpoint_fits log_bytes (items ++ r ∷ [])
item_fits log_bytes written items r is = ap (λ n. nat_le (n + 1) (area_size log_bytes)) (item_push written items r is)

length_within : (f : Record → ℕ) → ((r : Record) → 1 ≤ f r) → (rs : List Record) → length rs ≤ sum_by f rs
length_within f least [] = omega arith
length_within f least (r ∷ rs) = omega (arith, sum_by-cons f r rs, length_within f least rs, least r)

pub count_within : (items records : List Record) → length items + length records ≤ used_size items records
count_within items records = omega (arith, length_within item_room (λ r. omega arith) items, length_within record_room (λ r. omega arith) records)

pub count_is : (items records : List Record) → length (items ++ records) ≡ length items + length records
count_is items records = length-append items records
