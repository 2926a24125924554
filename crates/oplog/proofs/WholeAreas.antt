-- What a stop leaves while an area is written, and what the area says in the end.
use Rattle.std.proofs.Common.{◌≡◌, ◌≢◌, ◌⊎◌, ℕ, ◌+◌, ◌-◌, ◌<◌, ◌≤◌, true, false, ◌==◌, List, [], ◌∷◌, ◌++◌, length, get_or, drop, refl, sym, ap, subst, ◌∙◌, append_assoc, length-append, take-append-drop, arith, inl, inr}
use Rattle.std.proofs.lemmas.Bool.{cases_eq, leb-true, ne_eqb}
use Rattle.std.proofs.lemmas.List.{drop_more}
use Rattle.std.specs.List.{AllByRecursion}
use Rattle.disk.specs.Bytes.{put_at, range_at}
use Rattle.disk.specs.Device.{ChangesOnly}
use Rattle.disk_redo.specs.Gates.{committed, IsCommitting, IsUncommitted}
use Rattle.disk_redo.proofs.Ranges.{get_range, length_range, put_changes, range_inside, range_put, range_range, same_before}
use Rattle.log_records.specs.declared.record.Record.{Record}
use Rattle.log_codec.specs.Fields.{index, number, IsIndex, IsNumber}
use Rattle.oplog.specs.Areas.{AreaSays}
use Rattle.oplog.specs.Entries.{entries, open_entries, HoldsRecords, IsEntry}
use Rattle.oplog.specs.Layout.{area_at, area_size, checkpoint_fits}
use Rattle.oplog.specs.Order.{is_checkpoint}
use Rattle.oplog.proofs.Parsing.{index_len, number_len}
use Rattle.oplog.specs.Disks.{area_of}
use Rattle.oplog.proofs.Disks.{area_lies}
use Rattle.oplog.specs.Writing.{area_with, is_area_open, IsStillClosed, IsWriting}
use Rattle.oplog.proofs.Changes.{then_changed, widened}

-- a number, a checkpoint behind its length, and a closed gate
abbrev pub behind_gate : ℕ → List Record → List ℕ
behind_gate n items = number n ++ (index (length (entries items)) ++ (entries items ++ 0 ∷ []))

pub behind_gate_len : (n : ℕ) (items : List Record) → length (behind_gate n items) ≡ 13 + length (entries items)
behind_gate_len n items =
    let cp = entries items in
    omega (
      arith,
      length-append (number n) (index (length cp) ++ (cp ++ 0 ∷ [])),
      length-append (index (length cp)) (cp ++ 0 ∷ []),
      length-append cp (0 ∷ []),
      number_len n,
      index_len (length cp),
    )

no_records : (rest : List ℕ) → HoldsRecords [] (0 ∷ rest)
unfolding open_entries
no_records rest = record { gate = 0; rest = rest; parts = refl; closed = omega arith; each = tt }

-- an open gate and these bytes are an area
says_fresh : (n : ℕ) (items : List Record) (rest bytes : List ℕ) → IsNumber n → IsIndex (length (entries items)) → AllByRecursion IsEntry items → is_checkpoint items ≡ true
    → bytes ≡ 1 ∷ (behind_gate n items ++ rest) → AreaSays (area_with n items) bytes
says_fresh n items rest bytes fits short each order e =
    let cp = entries items in
    record {
      rest = 0 ∷ rest;
      parts = e ∙ ap (λ (l : List ℕ). 1 ∷ l) (append_assoc (number n) (index (length cp) ++ (cp ++ 0 ∷ [])) rest
          ∙ ap (λ (l : List ℕ). number n ++ l) (append_assoc (index (length cp)) (cp ++ 0 ∷ []) rest ∙ ap (λ (l : List ℕ). index (length cp) ++ l) (append_assoc cp (0 ∷ []) rest)));
      number_fits = fits;
      length_fits = short;
      each = each;
      order = order;
      records = no_records rest;
    }

module _ (size which n : ℕ) (items : List Record) (d : List ℕ) (large : 4096 ≤ size) (sized : length d ≡ size) (one_of_two : which < 2)
    (closed : is_area_open size which d ≡ false) (fits : checkpoint_fits (area_size size) items ≡ true) where
  abbrev place : ℕ
  place = area_at size which

  abbrev m : ℕ
  m = area_size size

  abbrev bytes : List ℕ
  bytes = behind_gate n items

  wanted : 13 + length (entries items) + 1 ≤ m
  wanted = leb-true _ _ fits

  lies : place + m ≤ size
  lies = area_lies size which large one_of_two

  inside_area : place + 1 + length bytes ≤ place + m
  inside_area = omega (arith, wanted, behind_gate_len n items)

  pub room : place + 1 + length bytes ≤ length d
  room = omega (arith, inside_area, lies, sized)

  pub gate_room : place < length d
  gate_room = omega (arith, room)

  -- the first write leaves the area closed
  still_closed : (c : List ℕ) → ChangesOnly (place + 1) (length bytes) d c → IsStillClosed size which d c
  still_closed c is = record {
    elsewhere = widened place m (place + 1) (length bytes) d c is (omega (arith, lies, sized)) (omega arith) inside_area;
    closed = ap (λ (k : ℕ). k == 1) (same_before (place + 1) (length bytes) d c is place (omega arith)) ∙ closed;
  }

  first_write : (c : List ℕ) → ChangesOnly (place + 1) (length bytes) d c → IsWriting size which (area_with n items) d c
  first_write c is =
      let still = still_closed c is in
      record { elsewhere = still.elsewhere; inside = inl still.closed }

  abbrev written : List ℕ
  written = put_at d (place + 1) bytes

  changed : ChangesOnly (place + 1) (length bytes) d written
  changed = put_changes d bytes (place + 1) room

  written_size : length written ≡ size
  written_size = changed.size ∙ sized

  -- nothing was done, or the first write
  unfinished : (c : List ℕ) → IsUncommitted d (place + 1) bytes c → IsStillClosed size which d c
  unfinished c (inl same) = still_closed c (subst (ChangesOnly (place + 1) (length bytes) d) (sym same) (record { before = refl; after = refl; size = refl }))
  unfinished c (inr wrote) = subst (IsStillClosed size which d) (sym wrote) (still_closed written changed)

  module _ (c : List ℕ) (is : ChangesOnly place 1 written c) where
    c_size : length c ≡ size
    c_size = is.size ∙ written_size

    within : ChangesOnly (place - place) 1 (area_of size which written) (area_of size which c)
    within = range_inside place m place 1 written c is (omega (arith, written_size, lies)) (omega arith) (omega (arith, wanted))

    same_behind : drop 1 (area_of size which c) ≡ drop 1 (area_of size which written)
    same_behind = subst (λ (k : ℕ). drop (k + 1) (area_of size which c) ≡ drop (k + 1) (area_of size which written)) (let none : place - place ≡ 0 = omega arith in none) within.after

    stands : range_at (area_of size which written) 1 (length bytes) ≡ bytes
    stands =
        let at : place + 1 - place ≡ 1 = omega arith in
        ap (λ (k : ℕ). range_at (area_of size which written) k (length bytes)) (sym at)
        ∙ range_range written place m (place + 1) (length bytes) (omega (arith, written_size, lies)) (omega arith) inside_area
        ∙ range_put d bytes (place + 1) room

    rest : List ℕ
    rest = drop (length bytes) (drop 1 (area_of size which written))

    behind : drop 1 (area_of size which c) ≡ bytes ++ drop (length bytes) (drop 1 (area_of size which written))
    behind = same_behind ∙ sym (take-append-drop (length bytes) (drop 1 (area_of size which written)))
        ∙ ap (λ (l : List ℕ). l ++ drop (length bytes) (drop 1 (area_of size which written))) stands

    whole : get_or c place 0 ≡ 1 → area_of size which c ≡ 1 ∷ (bytes ++ drop (length bytes) (drop 1 (area_of size which written)))
    whole opened =
        let long : 0 < length (area_of size which c) = omega (arith, length_range c place m (omega (arith, c_size, lies)), wanted) in
        let at : place + 0 ≡ place = omega arith in
        let first : get_or (area_of size which c) 0 0 ≡ 1 = get_range c place m 0 (omega (arith, wanted)) ∙ ap (λ (k : ℕ). get_or c k 0) at ∙ opened in
        drop_more (area_of size which c) 0 0 long ∙ ap (λ (g : ℕ). g ∷ drop 1 (area_of size which c)) first ∙ ap (λ (l : List ℕ). 1 ∷ l) behind

    module _ (number_fits : IsNumber n) (short : IsIndex (length (entries items))) (each : AllByRecursion IsEntry items) (order : is_checkpoint items ≡ true) where
      pub opened_area : get_or c place 0 ≡ 1 → AreaSays (area_with n items) (area_of size which c)
      opened_area opened = says_fresh n items (drop (length bytes) (drop 1 (area_of size which written))) (area_of size which c) number_fits short each order (whole opened)

      gate_either : (get_or c place 0 ≡ 1) ⊎ (get_or c place 0 ≢ 1) → (is_area_open size which c ≡ false) ⊎ AreaSays (area_with n items) (area_of size which c)
      gate_either (inl opened) = inr (opened_area opened)
      gate_either (inr shut) = inl (ne_eqb (get_or c place 0) 1 shut)

      -- the second one leaves it closed, or as it is to be
      pub second_write : IsWriting size which (area_with n items) d c
      second_write = record {
        elsewhere = then_changed place m d written c
            (widened place m (place + 1) (length bytes) d written changed (omega (arith, lies, sized)) (omega arith) inside_area)
            (widened place m place 1 written c is (omega (arith, lies, written_size)) (omega arith) (omega (arith, wanted)));
        inside = gate_either (cases_eq (get_or c place 0) 1);
      }

  module _ (number_fits : IsNumber n) (short : IsIndex (length (entries items))) (each : AllByRecursion IsEntry items) (order : is_checkpoint items ≡ true) where
    stopped : (c : List ℕ) → IsCommitting d (place + 1) bytes place c → IsWriting size which (area_with n items) d c
    stopped c (inl first) = first_write c first
    stopped c (inr second) = second_write c second number_fits short each order

    gate_lies : place + 1 ≤ length written
    gate_lies = omega (arith, written_size, lies, wanted)

    all_changed : ChangesOnly place 1 written (put_at written place (1 ∷ []))
    all_changed = put_changes written (1 ∷ []) place gate_lies

    opened : get_or (put_at written place (1 ∷ [])) place 0 ≡ 1
    opened =
        let c = put_at written place (1 ∷ []) in
        let at : place + 0 ≡ place = omega arith in
        ap (λ (k : ℕ). get_or c k 0) (sym at) ∙ sym (get_range c place 1 0 (omega arith)) ∙ ap (λ (l : List ℕ). get_or l 0 0) (range_put written (1 ∷ []) place gate_lies)

    -- the same with the place and the bytes by other names
    module _ (p : ℕ) (b : List ℕ) (p_is : p ≡ place) (b_is : b ≡ bytes) where
      pub stopped_at : (c : List ℕ) → IsCommitting d (p + 1) b p c → IsWriting size which (area_with n items) d c
      stopped_at c stop = stopped c (subst (λ (l : List ℕ). IsCommitting d (place + 1) l place c) b_is (subst (λ (k : ℕ). IsCommitting d (k + 1) b k c) p_is stop))

      pub unfinished_at : (c : List ℕ) → IsUncommitted d (p + 1) b c → IsStillClosed size which d c
      unfinished_at c stop = unfinished c (subst (λ (l : List ℕ). IsUncommitted d (place + 1) l c) b_is (subst (λ (k : ℕ). IsUncommitted d (k + 1) b c) p_is stop))

      committed_is : committed d (p + 1) b p ≡ put_at written place (1 ∷ [])
      committed_is = ap (λ (k : ℕ). committed d (k + 1) b k) p_is ∙ ap (λ (l : List ℕ). committed d (place + 1) l place) b_is

      pub says_at : (c : List ℕ) → c ≡ committed d (p + 1) b p → AreaSays (area_with n items) (area_of size which c)
      says_at c is = subst (λ (l : List ℕ). AreaSays (area_with n items) (area_of size which l)) (sym (is ∙ committed_is))
          (opened_area (put_at written place (1 ∷ [])) all_changed number_fits short each order opened)

      pub elsewhere_at : (c : List ℕ) → c ≡ committed d (p + 1) b p → ChangesOnly place m d c
      elsewhere_at c is = subst (λ (l : List ℕ). ChangesOnly place m d l) (sym (is ∙ committed_is)) (second_write (put_at written place (1 ∷ [])) all_changed number_fits short each order).elsewhere
