-- An area is read in one way alone.
use Rattle.std.proofs.Common.{◌≡◌, ℕ, true, List, ◌++◌, length, sym, ap, subst, ◌∙◌}
use Rattle.std.specs.List.{AllByRecursion}
use Rattle.log_records.specs.declared.record.Record.{Record}
use Rattle.log_codec.specs.Fields.{number, index, IsNumber, IsIndex}
use Rattle.oplog.specs.Entries.{entries, IsEntry, HoldsRecords}
use Rattle.oplog.specs.Order.{is_checkpoint}
use Rattle.oplog.specs.Areas.{AreaState, AreaSays, area_bytes}
use Rattle.oplog.proofs.Parsing.{parts_same, number_unique, index_unique, entries_unique, records_unique, same_head}

pub record SameParts (m n : ℕ) (c d x y : List ℕ) : Type 0 where
  pub number : m ≡ n
  pub checkpoint : c ≡ d
  pub rest : x ≡ y

pub bytes_unique : (m n : ℕ) (c d x y : List ℕ) → IsNumber m → IsNumber n → IsIndex (length c) → IsIndex (length d) → area_bytes m c x ≡ area_bytes n d y → SameParts m n c d x y
bytes_unique m n c d x y fm gn fc fd e =
    let tails = (same_head 1 1 (number m ++ (index (length c) ++ (c ++ x))) (number n ++ (index (length d) ++ (d ++ y))) e).1 in
    let first = number_unique m n (index (length c) ++ (c ++ x)) (index (length d) ++ (d ++ y)) fm gn tails in
    let second = index_unique (length c) (length d) (c ++ x) (d ++ y) fc fd first.1 in
    let third = parts_same c d x y second.0 second.1 in
    record { number = first.0; checkpoint = third.0; rest = third.1 }

-- what the parts of an area's bytes are
pub parts_are : (n : ℕ) (checkpoint rest bytes : List ℕ) (area : AreaState) → IsNumber n → IsIndex (length checkpoint) → bytes ≡ area_bytes n checkpoint rest → (says : AreaSays area bytes)
    → SameParts n area.number checkpoint (entries area.items) rest says.rest
parts_are n checkpoint rest bytes area fits short e says =
    bytes_unique n area.number checkpoint (entries area.items) rest says.rest fits says.number_fits short says.length_fits (sym e ∙ says.parts)

pub area_unique : (a b : AreaState) (bytes : List ℕ) → AreaSays a bytes → AreaSays b bytes → a ≡ b
area_unique a b bytes sa sb =
    let same = parts_are a.number (entries a.items) sa.rest bytes b sa.number_fits sa.length_fits sa.parts sb in
    let items : a.items ≡ b.items = entries_unique a.items b.items sa.each sb.each same.checkpoint in
    let records : a.records ≡ b.records = records_unique a.records b.records sa.rest sa.records (subst (HoldsRecords b.records) (sym same.rest) sb.records) in
    λ i. record { number = same.number i; items = items i; records = records i }

-- the parts that were read make an area
pub says_area : (n : ℕ) (checkpoint rest bytes : List ℕ) (items records : List Record) → IsNumber n → IsIndex (length checkpoint) → bytes ≡ area_bytes n checkpoint rest
    → checkpoint ≡ entries items → AllByRecursion IsEntry items → is_checkpoint items ≡ true → HoldsRecords records rest
    → AreaSays (record { number = n; items = items; records = records }) bytes
says_area n checkpoint rest bytes items records fits short e is each order holds = record {
  rest = rest;
  parts = e ∙ ap (λ (c : List ℕ). area_bytes n c rest) is;
  number_fits = fits;
  length_fits = subst (λ (c : List ℕ). IsIndex (length c)) is short;
  each = each;
  order = order;
  records = holds;
}
