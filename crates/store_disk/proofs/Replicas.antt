-- A replica whose slot alone changed.
use Rattle.std.proofs.Common.{◌≡◌, inl, inr, ℕ, ◌+◌, ◌<◌, ◌≤◌, Bool, true, false, not, ◌==◌, if◌then◌else◌, List, length, get_or, refl, sym, ap, ◌∙◌, subst, arith, Option, None, Some}
use Rattle.std.specs.FinMap as map
use Rattle.std.specs.Ordering.{nat_cmp}
use Rattle.std.proofs.lemmas.Bool.{cases_eq, cases_lt}
use Rattle.disk.specs.Bytes.{range_at}
use Rattle.disk_redo.proofs.Ranges.{get_range}
use Rattle.disk_redo.specs.Moments.{KeepsAt, is_outside}
use Rattle.disk_redo.proofs.Places.{is_after, is_before}
use Rattle.replica_store.specs.Replicas.{Replica, ServerDisk, replica_of, row_of, with_replica}
use Rattle.replica_store.specs.declared.row.Row.{Row}
use Rattle.store_disk.specs.Index.{IndexState}
use Rattle.store_disk.specs.declared.held.HeldReplica.{HeldReplica}
use Rattle.store_disk.proofs.FormatSlots.{slot_before, slots_behind}
use Rattle.store_disk.specs.Fields.{order_in, used_header_in}
use Rattle.store_disk.specs.Formats.{HasOpenHead}
use Rattle.store_disk.specs.declared.header.SlotHeader.{SlotHeader}
use Rattle.store_disk.specs.Places.{disk_size, slot_place, slot_size}
use Rattle.store_disk.specs.Stored.{Holds, IsDiskOf, IsKnown, is_used}
use Rattle.store_disk.proofs.Free.{filter_same}
use Rattle.store_disk.proofs.OpenHeads.{head_kept}
use Rattle.store_disk.proofs.Lookups.{found_elsewhere, found_here}
use Rattle.store_disk.proofs.Slots.{KeepsSlot, holds_same, range_same, used_same}

some_test : (b : Bool) (x y : SlotHeader) → (if b then Some x else None) ≡ Some y → b ≡ true
some_test true x y e = refl
some_test false x y e = absurd cc

-- a slot that holds a replica is used
pub used_by : (chunk block : ℕ) (disk : List ℕ) (slot handle : ℕ) (r : Replica) → Holds chunk block disk slot handle r → is_used chunk block disk slot ≡ true
used_by chunk block disk slot handle r h =
    let place = slot_place chunk block slot in
    let bytes = range_at disk place 40 in
    let first : get_or bytes 0 0 ≡ get_or disk (place + 0) 0 = get_range disk place 40 0 (omega arith) in
    let same : place + 0 ≡ place = omega arith in
    ap (λ (k : ℕ). get_or disk k 0 == 1) (sym same) ∙ ap (λ (n : ℕ). n == 1) (sym first)
    ∙ some_test (get_or bytes 0 0 == 1) (used_header_in bytes) (record { handle = record { 0 = handle }; version = record { 0 = r.version }; serial = record { 0 = r.serial }; count = r.count }) h.header

-- slots don't meet
pub slot_apart : (chunk block s t : ℕ) → (t ≡ s → ⊥) → KeepsSlot chunk block (is_outside (slot_place chunk block s) (slot_size chunk block)) t
slot_apart chunk block s t other place le lt = elim (cases_lt t s) [
  | inl less ↦ is_before (slot_place chunk block s) (slot_size chunk block) place (omega (arith, slot_before chunk block t s less, lt))
  | inr no_less ↦ elim (cases_lt s t) [
    | inl more ↦ is_after (slot_place chunk block s) (slot_size chunk block) place (omega (arith, slot_before chunk block s t more, le))
    | inr no_more ↦ absurd (other (omega (arith, no_less, no_more)))
  ]
]

module _ (chunk block slots : ℕ) (index : IndexState) (disk : List ℕ) (d : ServerDisk) (is : IsDiskOf chunk block slots index disk d) where
  -- each replica that is known is stored
  pub its_replica : (h : ℕ) (found : HeldReplica) → map.get index.held h ≡ Some found → (r : Replica) × (replica_of d h ≡ Some r) × IsKnown chunk block slots disk h r found
  its_replica h found there = by (replica_of d h) refl
    where
      by : (o : Option Replica) → replica_of d h ≡ o → (r : Replica) × (replica_of d h ≡ Some r) × IsKnown chunk block slots disk h r found
      by None e = let f : None ≡ Some found = sym (is.no_other h e) ∙ there in absurd cc
      by (Some r) e =
          let k = is.held h r e in
          let both : Some k.0 ≡ Some found = sym k.1 ∙ there in
          let same : k.0 ≡ found = cc in
          (r, e, subst (λ (x : HeldReplica). IsKnown chunk block slots disk h r x) same k.2)

  -- where none is known, none is stored
  pub no_replica : (h : ℕ) → map.get index.held h ≡ None → replica_of d h ≡ None
  no_replica h none = by (replica_of d h) refl
    where
      by : (o : Option Replica) → replica_of d h ≡ o → o ≡ None
      by None e = refl
      by (Some r) e = let k = is.held h r e in let f : None ≡ Some k.0 = sym none ∙ k.1 in absurd cc

  -- the head, the order, and what is known of another handle, in another slot
  module _ (new : List ℕ) (s : ℕ) (fits : disk_size chunk block slots ≤ length disk) (keeps : KeepsAt (is_outside (slot_place chunk block s) (slot_size chunk block)) disk new) where
    pub head_still : HasOpenHead chunk block slots new
    head_still =
        let behind = slots_behind chunk block s in
        head_kept chunk block slots (is_outside (slot_place chunk block s) (slot_size chunk block)) disk new keeps (λ place lt. is_before (slot_place chunk block s) (slot_size chunk block) place (omega (arith, lt, behind))) is.head

    pub order_kept : order_in (range_at new 32 16) ≡ record { epoch = d.epoch; count = d.count }
    order_kept =
        let behind = slots_behind chunk block s in
        let last = slots_behind chunk block slots in
        ap order_in (range_same (is_outside (slot_place chunk block s) (slot_size chunk block)) disk new 32 16 keeps (omega (arith, last, fits)) (λ place le lt. is_before (slot_place chunk block s) (slot_size chunk block) place (omega (arith, lt, behind))))
        ∙ is.order_is

    pub known_still : (q : ℕ) (r : Replica) (x : HeldReplica) → (x.slot ≡ s → ⊥) → IsKnown chunk block slots disk q r x → IsKnown chunk block slots new q r x
    known_still q r x other k =
        let within = slot_before chunk block x.slot slots k.there in
        record {
          there = k.there;
          row = k.row;
          holds = holds_same chunk block (is_outside (slot_place chunk block s) (slot_size chunk block)) disk new x.slot keeps (omega (arith, within, fits)) (slot_apart chunk block s x.slot other) q r k.holds;
        }

    pub used_still : (t : ℕ) → t < slots → (t ≡ s → ⊥) → is_used chunk block new t ≡ is_used chunk block disk t
    used_still t lt other =
        let within = slot_before chunk block t slots lt in
        used_same chunk block (is_outside (slot_place chunk block s) (slot_size chunk block)) disk new t keeps (omega (arith, within, fits)) (slot_apart chunk block s t other)

  -- A replica becomes another one in its slot.
  module _ (h : ℕ) (found : HeldReplica) (there : map.get index.held h ≡ Some found) (new : List ℕ) (r' : Replica) (row : Row) (fits : disk_size chunk block slots ≤ length disk)
      (keeps : KeepsAt (is_outside (slot_place chunk block found.slot) (slot_size chunk block)) disk new) (holds : Holds chunk block new found.slot h r') (row_is : row_of (Some r') ≡ Some row) where
    abbrev pub now_held : HeldReplica
    now_held = record { slot = found.slot; row = row }

    abbrev pub held_now : map.FinMap nat_cmp HeldReplica
    held_now = map.insert index.held h now_held

    replaced_here : (r : Replica) → map.get (map.insert d.replicas h r') h ≡ Some r → (x : HeldReplica) × (map.get held_now h ≡ Some x) × IsKnown chunk block slots new h r x
    replaced_here r e =
        let both : Some r' ≡ Some r = sym (found_here d.replicas h r') ∙ e in
        let same : r' ≡ r = cc in
        let known : IsKnown chunk block slots new h r' now_held = record { there = (its_replica h found there).2.there; row = row_is; holds = holds } in
        (now_held, found_here index.held h now_held, subst (λ (x : Replica). IsKnown chunk block slots new h x now_held) same known)

    other_slot : (q : ℕ) (x : HeldReplica) → (q ≡ h → ⊥) → map.get index.held q ≡ Some x → (x.slot ≡ found.slot → ⊥)
    other_slot q x other at same = other (is.apart q h x found at there same)

    replaced_held : (q : ℕ) (r : Replica) → map.get (map.insert d.replicas h r') q ≡ Some r → (x : HeldReplica) × (map.get held_now q ≡ Some x) × IsKnown chunk block slots new q r x
    replaced_held q r e = elim (cases_eq q h) [
      | inl same ↦
          subst (λ (k : ℕ). (x : HeldReplica) × (map.get held_now k ≡ Some x) × IsKnown chunk block slots new k r x) (sym same) (replaced_here r (subst (λ (k : ℕ). map.get (map.insert d.replicas h r') k ≡ Some r) same e))
      | inr other ↦
          let k = is.held q r (sym (found_elsewhere d.replicas h r' q other) ∙ e) in
          (k.0, found_elsewhere index.held h now_held q other ∙ k.1, known_still new found.slot fits keeps q r k.0 (other_slot q k.0 other k.1) k.2)
    ]

    replaced_none : (q : ℕ) → map.get (map.insert d.replicas h r') q ≡ None → map.get held_now q ≡ None
    replaced_none q e = elim (cases_eq q h) [
      | inl same ↦ let f : Some r' ≡ None = sym (found_here d.replicas h r') ∙ subst (λ (k : ℕ). map.get (map.insert d.replicas h r') k ≡ None) same e in absurd cc
      | inr other ↦ found_elsewhere index.held h now_held q other ∙ is.no_other q (sym (found_elsewhere d.replicas h r' q other) ∙ e)
    ]

    -- the slot of what is known under a handle
    was_at : (q : ℕ) (x : HeldReplica) → map.get held_now q ≡ Some x → (y : HeldReplica) × (map.get index.held q ≡ Some y) × (y.slot ≡ x.slot)
    was_at q x e = elim (cases_eq q h) [
      | inl same ↦
          let both : Some now_held ≡ Some x = sym (found_here index.held h now_held) ∙ subst (λ (k : ℕ). map.get held_now k ≡ Some x) same e in
          let is_x : now_held ≡ x = cc in
          (found, ap (λ (k : ℕ). map.get index.held k) same ∙ there, ap (λ (y : HeldReplica). y.slot) is_x)
      | inr other ↦ (x, sym (found_elsewhere index.held h now_held q other) ∙ e, refl)
    ]

    replaced_apart : (a b : ℕ) (x y : HeldReplica) → map.get held_now a ≡ Some x → map.get held_now b ≡ Some y → x.slot ≡ y.slot → a ≡ b
    replaced_apart a b x y p q e = let v = was_at a x p in let w = was_at b y q in is.apart a b v.0 w.0 v.1 w.1 (v.2 ∙ e ∙ sym w.2)

    replaced_used : (t : ℕ) → t < slots → is_used chunk block new t ≡ is_used chunk block disk t
    replaced_used t lt = elim (cases_eq t found.slot) [
      | inl same ↦
          let its = its_replica h found there in
          ap (is_used chunk block new) same ∙ used_by chunk block new found.slot h r' holds ∙ sym (ap (is_used chunk block disk) same ∙ used_by chunk block disk found.slot h its.0 its.2.holds)
      | inr other ↦ used_still new found.slot fits keeps t lt other
    ]

    replaced_each : (t : ℕ) → t < slots → is_used chunk block new t ≡ true → (q : ℕ) × (x : HeldReplica) × (map.get held_now q ≡ Some x) × (x.slot ≡ t)
    replaced_each t lt used =
        let was = is.each t lt (sym (replaced_used t lt) ∙ used) in
        elim (cases_eq was.0 h) [
          | inl same ↦
              let both : Some found ≡ Some was.1 = sym there ∙ ap (λ (k : ℕ). map.get index.held k) (sym same) ∙ was.2 in
              let is_x : found ≡ was.1 = cc in
              (h, now_held, found_here index.held h now_held, ap (λ (y : HeldReplica). y.slot) is_x ∙ was.3)
          | inr other ↦ (was.0, was.1, found_elsewhere index.held h now_held was.0 other ∙ was.2, was.3)
        ]

    pub replica_replaced : IsDiskOf chunk block slots (record index { held = map.insert index.held h (record { slot = found.slot; row = row }) }) new (with_replica d h r')
    replica_replaced = record {
      chunk_is = is.chunk_is;
      block_is = is.block_is;
      slots_is = is.slots_is;
      head = head_still new found.slot fits keeps;
      order_is = order_kept new found.slot fits keeps;
      held = replaced_held;
      no_other = replaced_none;
      apart = replaced_apart;
      each = replaced_each;
      free = is.free ∙ sym (filter_same (λ slot. not (is_used chunk block disk slot)) (λ slot. not (is_used chunk block new slot)) 0 slots (λ t le lt. ap not (replaced_used t (omega (arith, lt)))));
    }
