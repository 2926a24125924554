-- Which area is current, by what the two begin with.
use Rattle.std.proofs.Common.{◌≡◌, ◌⊎◌, ℕ, zero, suc, ◌+◌, ◌-◌, ◌<◌, ◌≤◌, Bool, true, false, ◌==◌, List, [], ◌∷◌, ◌++◌, length, get_or, take, drop, Option, Some, None, sym, ap, subst, ◌∙◌, arith, inl, inr}
use Rattle.std.specs.Prelude.{if◌then◌else◌}
use Rattle.std.specs.Int.{w64, from_le_bytes}
use Rattle.std.proofs.lemmas.Bool.{lt-ltb}
use Rattle.std.proofs.lemmas.List.{take_at}
use Rattle.std.proofs.lemmas.Nat.{from_le_bytes-to_le_bytes_8}
use Rattle.disk.specs.Bytes.{range_at}
use Rattle.disk.specs.Device.{ChangesOnly}
use Rattle.disk_redo.proofs.Ranges.{get_range, range_outside, range_range}
use Rattle.log_records.specs.declared.record.Record.{Record}
use Rattle.log_codec.specs.Fields.{index, number, IsNumber}
use Rattle.oplog.specs.Areas.{AreaSays, AreaState}
use Rattle.oplog.specs.Entries.{entries}
use Rattle.oplog.specs.Layout.{area_at, area_size}
use Rattle.oplog.proofs.Parsing.{number_len}
use Rattle.oplog.specs.Disks.{area_of, front_of, head, is_below, open_number, other, DiskSays, IsOlder}
use Rattle.oplog.proofs.Disks.{area_lies, area_long}
use Rattle.oplog.specs.Writing.{area_with, is_area_open}

number_back : (n : ℕ) → IsNumber n → from_le_bytes w64 (number n) ≡ n
unfolding number
number_back n fits = from_le_bytes-to_le_bytes_8 n fits

-- an open area begins with its number
pub open_front : (size which : ℕ) (area : AreaState) (d : List ℕ) → 4096 ≤ size → length d ≡ size → which < 2 → AreaSays area (area_of size which d) → open_number (front_of size which d) ≡ Some area.number
open_front size which area d large sized one_of_two says =
    let place = area_at size which in
    let m = area_size size in
    let n = area.number in
    let rest = index (length (entries area.items)) ++ (entries area.items ++ says.rest) in
    let none : place - place ≡ 0 = omega arith in
    let len : length (1 ∷ number n) ≡ 9 = omega (arith, number_len n) in
    let front : front_of size which d ≡ 1 ∷ number n =
    sym (range_range d place m place 9 (omega (arith, area_lies size which large one_of_two, sized)) (omega arith) (omega (arith, area_long size large)))
    ∙ ap (λ (k : ℕ). range_at (area_of size which d) k 9) none ∙ ap (λ (l : List ℕ). take 9 l) says.parts ∙ take_at (1 ∷ number n) rest 9 len in
    ap open_number front ∙ ap (λ (k : ℕ). Some k) (number_back n says.number_fits)

closed_number : (front : List ℕ) → get_or front 0 0 == 1 ≡ false → open_number front ≡ None
closed_number front shut = ap (λ (b : Bool). if b then Some (from_le_bytes w64 (drop 1 front)) else None) shut

-- a closed one has none
pub closed_front : (size which : ℕ) (d : List ℕ) → is_area_open size which d ≡ false → open_number (front_of size which d) ≡ None
closed_front size which d shut =
    let place = area_at size which in
    let at : place + 0 ≡ place = omega arith in
    closed_number (front_of size which d) (ap (λ (k : ℕ). k == 1) (get_range d place 9 0 (omega arith) ∙ ap (λ (k : ℕ). get_or d k 0) at) ∙ shut)

pub older_than_all : (size which n : ℕ) (d : List ℕ) → is_area_open size which d ≡ false → IsOlder n (front_of size which d)
older_than_all size which n d shut = ap (λ (o : Option ℕ). is_below o n) (closed_front size which d shut)

apart : (size which : ℕ) → which < 2 → (area_at size which + area_size size ≤ area_at size (other which)) ⊎ (area_at size (other which) + area_size size ≤ area_at size which)
apart size zero lt = inl (omega arith)
apart size (suc zero) lt = inr (omega arith)
apart size (suc (suc n)) lt = absurd (omega (arith, lt))

front_apart : (a b m : ℕ) → 9 ≤ m → (a + m ≤ b) ⊎ (b + m ≤ a) → (a + 9 ≤ b) ⊎ (b + m ≤ a)
front_apart a b m long (inl le) = inl (omega (arith, le, long))
front_apart a b m long (inr le) = inr le

-- the other area changes
module _ (size which : ℕ) (area : AreaState) (d c : List ℕ) (large : 4096 ≤ size) (says : DiskSays size which area d) (is : ChangesOnly (area_at size (other which)) (area_size size) d c) where
  abbrev there : ℕ
  there = area_at size (other which)

  abbrev m : ℕ
  m = area_size size

  pub lies : area_at size which + m ≤ length d
  lies = omega (arith, area_lies size which large says.one_of_two, says.sized)

  pub same_size : length c ≡ size
  same_size = is.size ∙ says.sized

  pub same_head : take 16 c ≡ head ++ 1 ∷ []
  same_head = range_outside 0 16 there m d c is (omega (arith, says.sized, large)) (inl (omega arith)) ∙ says.formatted

  same_area : area_of size which c ≡ area_of size which d
  same_area = range_outside (area_at size which) m there m d c is lies (apart size which says.one_of_two)

  same_front : front_of size which c ≡ front_of size which d
  same_front = range_outside (area_at size which) 9 there m d c is (omega (arith, lies, area_long size large)) (front_apart (area_at size which) there m (omega (arith, area_long size large)) (apart size which says.one_of_two))

  -- and is closed: the current one stays
  pub current_stays : is_area_open size (other which) c ≡ false → DiskSays size which area c
  current_stays shut = record {
    sized = same_size;
    one_of_two = says.one_of_two;
    formatted = same_head;
    says = subst (AreaSays area) (sym same_area) says.says;
    older = older_than_all size (other which) area.number c shut;
  }

  other_of_other : other (other which) ≡ which
  other_of_other = omega (arith, says.one_of_two)

  -- and says something, with the next number: it is the current one
  pub other_is_current : (items : List Record) → AreaSays (area_with (area.number + 1) items) (area_of size (other which) c) → DiskSays size (other which) (area_with (area.number + 1) items) c
  other_is_current items new = record {
    sized = same_size;
    one_of_two = omega arith;
    formatted = same_head;
    says = new;
    older =
        let first : open_number (front_of size which c) ≡ Some area.number = ap open_number same_front ∙ open_front size which area d large says.sized says.one_of_two says.says in
        let less : is_below (Some area.number) (area.number + 1) ≡ true = lt-ltb area.number (area.number + 1) (omega arith) in
        subst (λ (k : ℕ). IsOlder (area.number + 1) (front_of size k c)) (sym other_of_other) (ap (λ (o : Option ℕ). is_below o (area.number + 1)) first ∙ less);
  }
