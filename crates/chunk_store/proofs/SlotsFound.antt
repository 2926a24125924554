-- Replicas are found, slot by slot.
use Rattle.std.proofs.Common.{◌≡◌, inl, inr, ℕ, ◌+◌, ◌<◌, Bool, true, false, not, ◌&&◌, nat_lt, ◌==◌, if◌then◌else◌, List, get_or, refl, sym, ap, ◌∙◌, arith, Option, None, Some}
use Rattle.std.specs.BTreeMap.{is_at}
use Rattle.std.specs.FinMap as map
use Rattle.std.specs.List.{range_with_len}
use Rattle.std.specs.Ordering.{nat_cmp}
use Rattle.std.specs.Set.{remove_key}
use Rattle.std.proofs.lemmas.Bool.{cases_eq, cases_lt}
use Rattle.std.proofs.lemmas.Bool.Decides.{nat_tests}
use Rattle.disk.specs.Bytes.{range_at}
use Rattle.disk_redo.proofs.Ranges.{get_range}
use Rattle.replica_store.specs.Replicas.{ServerDisk}
use Rattle.replica_store.specs.declared.row.Row.{Row}
use Rattle.store_disk.specs.Index.{IndexState}
use Rattle.store_disk.specs.declared.held.HeldReplica.{HeldReplica}
use Rattle.store_disk.specs.Fields.{header_in, used_header_in}
use Rattle.store_disk.specs.declared.header.SlotHeader.{SlotHeader}
use Rattle.store_disk.specs.Places.{slot_place}
use Rattle.store_disk.specs.Stored.{IsDiskOf, is_used}
use Rattle.store_disk.proofs.Free.{filter_all, filter_same}
use Rattle.store_disk.proofs.Lookups.{found_elsewhere, found_here}
use Rattle.store_disk.proofs.Replicas.{its_replica, used_by}
use Rattle.chunk_store.proofs.Gone.{one_gone}
use Rattle.chunk_store.specs.Finding.{KnowsFirst}

and_left : (b c : Bool) → b ≡ true → (b && c) ≡ c
and_left true c e = refl
and_left false c e = absurd cc

not_used : (b c : Bool) → b ≡ false → not (b && c) ≡ true
not_used false c e = refl
not_used true c e = absurd cc

no_longer : (b c : Bool) → b ≡ true → c ≡ true → not (b && c) ≡ false
no_longer true true e f = refl
no_longer true false e f = absurd cc
no_longer false c e f = absurd cc

not_yet : (b c : Bool) → c ≡ false → not (b && c) ≡ true
not_yet true false e = refl
not_yet true true e = absurd cc
not_yet false c e = refl

below_next : (t n : ℕ) → (t ≡ n → ⊥) → nat_lt t (n + 1) ≡ nat_lt t n
below_next t n other = elim (cases_lt t n) [
  | inl lt ↦ grind (arith, nat_tests, lt)
  | inr le ↦ elim (cases_lt n t) [
    | inl more ↦ grind (arith, nat_tests, more)
    | inr no_more ↦ absurd (other (omega (arith, le, no_more)))
  ]
]

below_or : (t n : ℕ) → t < n + 1 → (t ≡ n → ⊥) → t < n
below_or t n lt other = elim (cases_lt t n) [
  | inl less ↦ less
  | inr no_less ↦ absurd (other (omega (arith, lt, no_less)))
]

some_test : (b : Bool) (x y : SlotHeader) → (if b then Some x else None) ≡ Some y → b ≡ true
some_test true x y e = refl
some_test false x y e = absurd cc

some_not : (b : Bool) (x : SlotHeader) → (if b then Some x else None) ≡ None → b ≡ false
some_not true x e = absurd cc
some_not false x e = refl

first_byte : (chunk block : ℕ) (disk : List ℕ) (slot : ℕ) → is_used chunk block disk slot ≡ (get_or (range_at disk (slot_place chunk block slot) 40) 0 0 == 1)
first_byte chunk block disk slot =
    let place = slot_place chunk block slot in
    let same : place + 0 ≡ place = omega arith in
    ap (λ (k : ℕ). get_or disk k 0 == 1) (sym same) ∙ ap (λ (n : ℕ). n == 1) (sym (get_range disk place 40 0 (omega arith)))

used_from : (chunk block : ℕ) (disk : List ℕ) (slot : ℕ) (header : SlotHeader) → header_in (range_at disk (slot_place chunk block slot) 40) ≡ Some header → is_used chunk block disk slot ≡ true
used_from chunk block disk slot header says =
    let bytes = range_at disk (slot_place chunk block slot) 40 in
    first_byte chunk block disk slot ∙ some_test (get_or bytes 0 0 == 1) (used_header_in bytes) header says

pub unused_from : (chunk block : ℕ) (disk : List ℕ) (slot : ℕ) → header_in (range_at disk (slot_place chunk block slot) 40) ≡ None → is_used chunk block disk slot ≡ false
unused_from chunk block disk slot says =
    let bytes = range_at disk (slot_place chunk block slot) 40 in
    first_byte chunk block disk slot ∙ some_not (get_or bytes 0 0 == 1) (used_header_in bytes) says

module _ (chunk block slots : ℕ) (all : IndexState) (disk : List ℕ) (d : ServerDisk) (is : IsDiskOf chunk block slots all disk d) where
  -- before the first slot
  pub none_yet : KnowsFirst chunk block slots disk all 0 (record { held = map.empty; free = range_with_len 0 slots })
  none_yet = record {
    known = λ q x e. let f : None ≡ Some x = sym (map.get-empty nat_cmp q) ∙ e in absurd cc;
    early = λ q x e. let f : None ≡ Some x = sym (map.get-empty nat_cmp q) ∙ e in absurd cc;
    each = λ q x e lt. absurd (omega (arith, lt));
    free = sym (filter_all (λ slot. not (is_used chunk block disk slot && nat_lt slot 0)) 0 slots (λ t le lt. not_yet (is_used chunk block disk t) (nat_lt t 0) (grind (arith, nat_tests))));
  }

  slot_is_used : (q : ℕ) (x : HeldReplica) → map.get all.held q ≡ Some x → is_used chunk block disk x.slot ≡ true
  slot_is_used q x e = let its = its_replica chunk block slots all disk d is q x e in used_by chunk block disk x.slot q its.0 its.2.holds

  module _ (n : ℕ) (some : IndexState) (so_far : KnowsFirst chunk block slots disk all n some) where
    -- a slot that isn't used
    pub one_skipped : is_used chunk block disk n ≡ false → KnowsFirst chunk block slots disk all (n + 1) some
    one_skipped unused = record {
      known = so_far.known;
      early = λ q x e. let lt = so_far.early q x e in omega (arith, lt);
      each = λ q x e lt. elim (cases_eq x.slot n) [
        | inl same ↦ let f : true ≡ false = sym (slot_is_used q x e) ∙ ap (is_used chunk block disk) same ∙ unused in absurd cc
        | inr other ↦ so_far.each q x e (below_or x.slot n lt other)
      ];
      free = so_far.free ∙ sym (filter_same (λ t. not (is_used chunk block disk t && nat_lt t n)) (λ t. not (is_used chunk block disk t && nat_lt t (n + 1))) 0 slots (λ t le lt. elim (cases_eq t n) [
        | inl same ↦
            let off : is_used chunk block disk t ≡ false = ap (is_used chunk block disk) same ∙ unused in
            not_used (is_used chunk block disk t) (nat_lt t (n + 1)) off ∙ sym (not_used (is_used chunk block disk t) (nat_lt t n) off)
        | inr other ↦ ap (λ b. not (is_used chunk block disk t && b)) (below_next t n other)
      ]));
    }

    -- a slot that says what lies there
    module _ (header : SlotHeader) (lt : n < slots) (says : header_in (range_at disk (slot_place chunk block n) 40) ≡ Some header) where
      abbrev found_row : Row
      found_row = record { version = header.version; serial = header.serial; count = header.count }

      abbrev found_there : HeldReplica
      found_there = record { slot = n; row = found_row }

      abbrev with_found : IndexState
      with_found = record { held = map.insert some.held header.handle.0 found_there; free = remove_key (is_at (nat_cmp n)) some.free }

      used : is_used chunk block disk n ≡ true
      used = used_from chunk block disk n header says

      it_is : map.get all.held header.handle.0 ≡ Some found_there
      it_is =
          let that = is.each n lt used in
          let its = its_replica chunk block slots all disk d is that.0 that.1 that.2 in
          let same : that.1.slot ≡ n = that.3 in
          let r = its.0 in
          let both : Some header ≡ Some (record { handle = record { 0 = that.0 }; version = record { 0 = r.version }; serial = record { 0 = r.serial }; count = r.count }) =
          sym says ∙ ap (λ (k : ℕ). header_in (range_at disk (slot_place chunk block k) 40)) (sym same) ∙ its.2.holds.header in
          let e : header ≡ record { handle = record { 0 = that.0 }; version = record { 0 = r.version }; serial = record { 0 = r.serial }; count = r.count } = cc in
          let row_is : record { version = record { 0 = r.version }; serial = record { 0 = r.serial }; count = r.count } ≡ that.1.row = (let f = its.2.row in cc) in
          ap (λ (h : SlotHeader). map.get all.held h.handle.0) e ∙ that.2
          ∙ ap (λ (k : ℕ). Some (record { slot = k; row = that.1.row })) same
          ∙ ap (λ (row : Row). Some (record { slot = n; row = row })) (sym row_is)
          ∙ ap (λ (h : SlotHeader). Some (record { slot = n; row = record { version = h.version; serial = h.serial; count = h.count } })) (sym e)

      is_found : (x : HeldReplica) → map.get all.held header.handle.0 ≡ Some x → found_there ≡ x
      is_found x e = let both : Some found_there ≡ Some x = sym it_is ∙ e in cc

      is_put : (x : HeldReplica) → map.get with_found.held header.handle.0 ≡ Some x → found_there ≡ x
      is_put x e = let both : Some found_there ≡ Some x = sym (found_here some.held header.handle.0 found_there) ∙ e in cc

      found_known : (q : ℕ) (x : HeldReplica) → map.get with_found.held q ≡ Some x → (map.get all.held q ≡ Some x) × (x.slot < n + 1)
      found_known q x e = elim (cases_eq q header.handle.0) [
        | inl same ↦
            let is_x = is_put x (ap (λ (k : ℕ). map.get with_found.held k) (sym same) ∙ e) in
            (ap (λ (k : ℕ). map.get all.held k) same ∙ it_is ∙ ap (λ (y : HeldReplica). Some y) is_x, let slot_is : n ≡ x.slot = ap (λ (y : HeldReplica). y.slot) is_x in omega (arith, slot_is))
        | inr other ↦
            let was = sym (found_elsewhere some.held header.handle.0 found_there q other) ∙ e in
            let less = so_far.early q x was in
            (so_far.known q x was, omega (arith, less))
      ]

      found_each : (q : ℕ) (x : HeldReplica) → map.get all.held q ≡ Some x → x.slot < n + 1 → map.get with_found.held q ≡ Some x
      found_each q x e less = elim (cases_eq x.slot n) [
        | inl same ↦
            let key : q ≡ header.handle.0 = is.apart q header.handle.0 x found_there e it_is same in
            let is_x = is_found x (ap (λ (k : ℕ). map.get all.held k) (sym key) ∙ e) in
            ap (λ (k : ℕ). map.get with_found.held k) key ∙ found_here some.held header.handle.0 found_there ∙ ap (λ (y : HeldReplica). Some y) is_x
        | inr other ↦
            found_elsewhere some.held header.handle.0 found_there q (λ key. other (sym (ap (λ (y : HeldReplica). y.slot) (is_found x (ap (λ (k : ℕ). map.get all.held k) (sym key) ∙ e)))))
            ∙ so_far.each q x e (below_or x.slot n less other)
      ]

      pub one_found : KnowsFirst chunk block slots disk all (n + 1) with_found
      one_found = record {
        known = λ q x e. (found_known q x e).0;
        early = λ q x e. (found_known q x e).1;
        each = found_each;
        free =
            ap (λ (l : List ℕ). remove_key (is_at (nat_cmp n)) l) so_far.free
            ∙ one_gone (λ t. not (is_used chunk block disk t && nat_lt t n)) (λ t. not (is_used chunk block disk t && nat_lt t (n + 1))) 0 slots n (omega arith) (omega (arith, lt))
            (not_yet (is_used chunk block disk n) (nat_lt n n) (grind (arith, nat_tests)))
            (no_longer (is_used chunk block disk n) (nat_lt n (n + 1)) used (grind (arith, nat_tests)))
            (λ t le more other. ap (λ b. not (is_used chunk block disk t && b)) (below_next t n other));
      }

  -- all slots
  pub all_known : (some : IndexState) → KnowsFirst chunk block slots disk all slots some → IsDiskOf chunk block slots some disk d
  all_known some so_far = record {
    chunk_is = is.chunk_is;
    block_is = is.block_is;
    slots_is = is.slots_is;
    head = is.head;
    order_is = is.order_is;
    held = λ q r e. let k = is.held q r e in (k.0, so_far.each q k.0 k.1 k.2.there, k.2);
    no_other = λ q e. by q (map.get some.held q) refl (is.no_other q e);
    apart = λ a b x y p q e. is.apart a b x y (so_far.known a x p) (so_far.known b y q) e;
    each = λ t lt used. let was = is.each t lt used in (was.0, was.1, so_far.each was.0 was.1 was.2 (let e = was.3 in omega (arith, e, lt)), was.3);
    free = so_far.free ∙ filter_same (λ t. not (is_used chunk block disk t)) (λ t. not (is_used chunk block disk t && nat_lt t slots)) 0 slots (λ t le lt. ap not (and_true (is_used chunk block disk t) (nat_lt t slots) (grind (arith, nat_tests, lt))));
  }
    where
      and_true : (b c : Bool) → c ≡ true → (b && c) ≡ b
      and_true true c e = e
      and_true false c e = refl

      by : (q : ℕ) (o : Option HeldReplica) → map.get some.held q ≡ o → map.get all.held q ≡ None → map.get some.held q ≡ None
      by q None e none = e
      by q (Some x) e none = let f : None ≡ Some x = sym none ∙ so_far.known q x e in absurd cc
