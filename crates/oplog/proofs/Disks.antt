-- What a disk says after a change of its current area.
use Rattle.std.proofs.Common.{◌≡◌, ◌⊎◌, ℕ, zero, suc, ◌+◌, ◌-◌, ◌*◌, ◌/◌, ◌<◌, ◌≤◌, List, [], ◌∷◌, ◌++◌, length, take, drop, refl, sym, ap, subst, ◌∙◌, arith, inl, inr, ⊎_elim}
use Rattle.disk.specs.Bytes.{put_at, range_at}
use Rattle.disk.specs.Device.{ChangesOnly}
use Rattle.log_records.specs.declared.record.Record.{Record}
use Rattle.oplog.specs.Entries.{entry, IsLogged}
use Rattle.oplog.specs.Areas.{AreaState, AreaSays, end_of}
use Rattle.oplog.specs.Layout.{area_at, area_size}
use Rattle.oplog.specs.Disks.{area_of, front_of, other, head, DiskSays, HasLog, IsOlder}
use Rattle.oplog.specs.Changes.{appended, IsBeforeOrAfter}
use Rattle.disk_redo.proofs.Ranges.{range_outside, range_inside, range_put, range_range, put_changes}
use Rattle.oplog.proofs.DiskAreas.{Staged, torn_behind, staged, torn_gate, opened_gate}

-- both areas lie on the disk, and apart
pub areas_fit : (size : ℕ) → 4096 ≤ size → 16 + area_size size + area_size size ≤ size
areas_fit size le = omega (arith, le)

pub area_long : (size : ℕ) → 4096 ≤ size → 14 ≤ area_size size
area_long size le = omega (arith, le)

pub area_lies : (size which : ℕ) → 4096 ≤ size → which < 2 → area_at size which + area_size size ≤ size
area_lies size zero le lt = omega (arith, areas_fit size le)
area_lies size (suc zero) le lt = omega (arith, areas_fit size le)
area_lies size (suc (suc n)) le lt = absurd (omega (arith, lt))

abbrev Apart : ℕ → ℕ → ℕ → Type 0
Apart a m b = (b + m ≤ a) ⊎ (a + m ≤ b)

areas_apart : (size which : ℕ) → which < 2 → Apart (area_at size which) (area_size size) (area_at size (other which))
areas_apart size zero lt = inr (omega arith)
areas_apart size (suc zero) lt = inl (omega arith)
areas_apart size (suc (suc n)) lt = absurd (omega (arith, lt))

other_lt : (which : ℕ) → other which < 2
other_lt which = omega arith

side : (a m b at n k : ℕ) → k ≤ m → Apart a m b → a ≤ at → at + n ≤ a + m → (b + k ≤ at) ⊎ (at + n ≤ b)
side a m b at n k short (inl le) from to = inl (omega (arith, le, from, short))
side a m b at n k short (inr le) from to = inr (omega (arith, le, to))

-- a change within the current area
module _ (size which : ℕ) (area : AreaState) (d : List ℕ) (large : 4096 ≤ size) where
  pub inside : (says : DiskSays size which area d) (at n : ℕ) (c : List ℕ) → ChangesOnly at n d c → area_at size which ≤ at → at + n ≤ area_at size which + area_size size
      → ChangesOnly (at - area_at size which) n (area_of size which d) (area_of size which c)
  inside says at n c is from to = range_inside (area_at size which) (area_size size) at n d c is (omega (arith, area_lies size which large says.one_of_two, says.sized)) from to

  pub kept : (says : DiskSays size which area d) (at n : ℕ) (c : List ℕ) → ChangesOnly at n d c → area_at size which ≤ at → at + n ≤ area_at size which + area_size size
      → (new : AreaState) → new.number ≡ area.number → AreaSays new (area_of size which c) → DiskSays size which new c
  kept says at n c is from to new number says_new = record {
    sized = is.size ∙ says.sized;
    one_of_two = says.one_of_two;
    formatted = range_outside 0 16 at n d c is (omega (arith, says.sized, large)) (inl (omega (arith, from))) ∙ says.formatted;
    says = says_new;
    older =
        let same : front_of size (other which) c ≡ front_of size (other which) d = range_outside (area_at size (other which)) 9 at n d c is (omega (arith, area_lies size (other which) large (other_lt which), area_long size large, says.sized))
        (side (area_at size which) (area_size size) (area_at size (other which)) at n 9 (omega (arith, area_long size large)) (areas_apart size which says.one_of_two) from to) in
        subst (λ (b : List ℕ). IsOlder new.number b) (sym same) (subst (λ (k : ℕ). IsOlder k (front_of size (other which) d)) (sym number) says.older);
  }

pub has_log : (size which : ℕ) (area : AreaState) (d : List ℕ) → DiskSays size which area d → HasLog area.items area.records d
has_log size which area d says = record { which = which; number = area.number; says = subst (λ (k : ℕ). DiskSays k which area d) (sym says.sized) says }

-- ---- one record more

module _ (size which : ℕ) (area : AreaState) (r : Record) (d : List ℕ) (large : 4096 ≤ size) (says : DiskSays size which area d) (logged : IsLogged r)
    (fits : end_of area + 1 + length (entry r ++ 0 ∷ []) ≤ area_size size) where
  abbrev bytes : List ℕ
  bytes = entry r ++ 0 ∷ []

  abbrev place : ℕ
  place = area_at size which + end_of area

  at_end : (k : ℕ) → place + k - area_at size which ≡ end_of area + k
  at_end k = omega arith

  pub room : place + 1 + length bytes ≤ length d
  room = omega (arith, fits, area_lies size which large says.one_of_two, says.sized)

  -- the first write leaves what was there
  pub first_write : (c : List ℕ) → ChangesOnly (place + 1) (length bytes) d c → DiskSays size which area c
  first_write c is =
      let from : area_at size which ≤ place + 1 = omega arith in
      let to : place + 1 + length bytes ≤ area_at size which + area_size size = omega (arith, fits) in
      let within = inside size which area d large says (place + 1) (length bytes) c is from to in
      kept size which area d large says (place + 1) (length bytes) c is from to area refl
      (torn_behind area (area_of size which d) (area_of size which c) (length bytes) says.says (subst (λ (k : ℕ). ChangesOnly k (length bytes) (area_of size which d) (area_of size which c)) (at_end 1) within))

  abbrev written : List ℕ
  written = put_at d (place + 1) bytes

  changes : ChangesOnly (place + 1) (length bytes) d written
  changes = put_changes d bytes (place + 1) room

  says_written : DiskSays size which area written
  says_written = first_write written changes

  is_staged : Staged area r (area_of size which written)
  is_staged =
      let from : area_at size which ≤ place + 1 = omega arith in
      let to : place + 1 + length bytes ≤ area_at size which + area_size size = omega (arith, fits) in
      let within = inside size which area d large says (place + 1) (length bytes) written changes from to in
      let fit : area_at size which + area_size size ≤ length written = omega (arith, area_lies size which large says.one_of_two, says_written.sized) in
      staged area r (area_of size which d) (area_of size which written) says.says
      (subst (λ (k : ℕ). ChangesOnly k (length bytes) (area_of size which d) (area_of size which written)) (at_end 1) within)
      (ap (λ (k : ℕ). range_at (area_of size which written) k (length bytes)) (sym (at_end 1)) ∙ range_range written (area_at size which) (area_size size) (place + 1) (length bytes) fit from to ∙ range_put d bytes (place + 1) room)

  at_gate : place - area_at size which ≡ end_of area
  at_gate = omega arith

  gate_from : area_at size which ≤ place
  gate_from = omega arith

  gate_to : place + 1 ≤ area_at size which + area_size size
  gate_to = omega (arith, fits)

  gate_within : (c : List ℕ) → ChangesOnly place 1 written c → ChangesOnly (end_of area) 1 (area_of size which written) (area_of size which c)
  gate_within c is = subst (λ (k : ℕ). ChangesOnly k 1 (area_of size which written) (area_of size which c)) at_gate (inside size which area written large says_written place 1 c is gate_from gate_to)

  says_either : (c : List ℕ) → ChangesOnly place 1 written c → AreaSays area (area_of size which c) ⊎ AreaSays (appended area r) (area_of size which c) → DiskSays size which area c ⊎ DiskSays size which (appended area r) c
  says_either c is (inl before) = inl (kept size which area written large says_written place 1 c is gate_from gate_to area refl before)
  says_either c is (inr after) = inr (kept size which area written large says_written place 1 c is gate_from gate_to (appended area r) refl after)

  -- the second one leaves it, with the record or without
  pub second_write : (c : List ℕ) → ChangesOnly place 1 written c → DiskSays size which area c ⊎ DiskSays size which (appended area r) c
  second_write c is = says_either c is (torn_gate area r (area_of size which d) (area_of size which written) (area_of size which c) says.says logged is_staged (gate_within c is))

  -- and at last with the record
  pub both_written : DiskSays size which (appended area r) (put_at written place (1 ∷ []))
  both_written =
      let c = put_at written place (1 ∷ []) in
      let fit : place + 1 ≤ length written = omega (arith, room, changes.size) in
      let is = put_changes written (1 ∷ []) place fit in
      let lies : area_at size which + area_size size ≤ length c = omega (arith, area_lies size which large says.one_of_two, says_written.sized, is.size) in
      let opened : range_at (area_of size which c) (end_of area) 1 ≡ 1 ∷ [] =
      ap (λ (k : ℕ). range_at (area_of size which c) k 1) (sym at_gate) ∙ range_range c (area_at size which) (area_size size) place 1 lies gate_from gate_to ∙ range_put written (1 ∷ []) place fit in
      kept size which area written large says_written place 1 c is gate_from gate_to (appended area r) refl
      (opened_gate area r (area_of size which d) (area_of size which written) (area_of size which c) says.says logged is_staged (gate_within c is) opened)

  -- a stop while that is done
  pub stopped : (c : List ℕ) → ChangesOnly (place + 1) (length bytes) d c ⊎ ChangesOnly place 1 written c → IsBeforeOrAfter area r c
  stopped c (inl first) = inl (has_log size which area c (first_write c first))
  stopped c (inr second) = ⊎_elim (λ before. inl (has_log size which area c before)) (λ after. inr (has_log size which (appended area r) c after)) (second_write c second)
