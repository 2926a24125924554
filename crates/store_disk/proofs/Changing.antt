-- One replica more, and one fewer.
use Rattle.std.proofs.Common.{◌≡◌, ◌⊎◌, inl, inr, ℕ, ◌<◌, ◌≤◌, Bool, true, false, not, List, ◌∷◌, length, refl, sym, ap, ◌∙◌, subst, arith, None, Some}
use Rattle.std.specs.FinMap as map
use Rattle.std.specs.BTreeSet.{insert_key}
use Rattle.std.specs.Ordering.{nat_cmp}
use Rattle.std.proofs.lemmas.Bool.{cases_eq}
use Rattle.disk_redo.specs.Moments.{KeepsAt, is_outside}
use Rattle.replica_store.specs.Replicas.{Replica, ServerDisk, row_of, with_replica}
use Rattle.replica_store.specs.declared.row.Row.{Row}
use Rattle.store_disk.specs.Index.{IndexState}
use Rattle.store_disk.specs.declared.held.HeldReplica.{HeldReplica}
use Rattle.store_disk.specs.Places.{disk_size, slot_place, slot_size}
use Rattle.store_disk.specs.Stored.{Holds, IsDiskOf, IsKnown, is_used}
use Rattle.store_disk.proofs.Free.{Lowest, lowest, lowest_taken, one_put}
use Rattle.store_disk.proofs.Lookups.{found_elsewhere, found_here, gone_here, kept_elsewhere}
use Rattle.store_disk.proofs.Replicas.{head_still, its_replica, known_still, order_kept, used_by, used_still}

un_not : (b : Bool) → not b ≡ true → b ≡ false
un_not true e = absurd cc
un_not false e = refl

not_both : (b : Bool) → b ≡ true → b ≡ false → ⊥
not_both b t f = cc

module _ (chunk block slots : ℕ) (index : IndexState) (disk : List ℕ) (d : ServerDisk) (is : IsDiskOf chunk block slots index disk d) (h : ℕ) (new : List ℕ) (fits : disk_size chunk block slots ≤ length disk) where
  abbrev free_before : ℕ → Bool
  free_before slot = not (is_used chunk block disk slot)

  abbrev free_after : ℕ → Bool
  free_after slot = not (is_used chunk block new slot)

  -- A replica goes, and its slot is free.
  module _ (found : HeldReplica) (there : map.get index.held h ≡ Some found) (keeps : KeepsAt (is_outside (slot_place chunk block found.slot) (slot_size chunk block)) disk new) (gone : is_used chunk block new found.slot ≡ false) where
    removed_held : (q : ℕ) (r : Replica) → map.get (map.remove d.replicas h) q ≡ Some r → (x : HeldReplica) × (map.get (map.remove index.held h) q ≡ Some x) × IsKnown chunk block slots new q r x
    removed_held q r e = elim (cases_eq q h) [
      | inl same ↦ let f : None ≡ Some r = sym (gone_here d.replicas h) ∙ subst (λ (k : ℕ). map.get (map.remove d.replicas h) k ≡ Some r) same e in absurd cc
      | inr other ↦
          let k = is.held q r (sym (kept_elsewhere d.replicas h q other) ∙ e) in
          (k.0, kept_elsewhere index.held h q other ∙ k.1, known_still chunk block slots index disk d is new found.slot fits keeps q r k.0 (λ same. other (is.apart q h k.0 found k.1 there same)) k.2)
    ]

    removed_none : (q : ℕ) → map.get (map.remove d.replicas h) q ≡ None → map.get (map.remove index.held h) q ≡ None
    removed_none q e = elim (cases_eq q h) [
      | inl same ↦ ap (λ (k : ℕ). map.get (map.remove index.held h) k) same ∙ gone_here index.held h
      | inr other ↦ kept_elsewhere index.held h q other ∙ is.no_other q (sym (kept_elsewhere d.replicas h q other) ∙ e)
    ]

    was_held : (q : ℕ) (x : HeldReplica) → map.get (map.remove index.held h) q ≡ Some x → map.get index.held q ≡ Some x
    was_held q x e = elim (cases_eq q h) [
      | inl same ↦ let f : None ≡ Some x = sym (gone_here index.held h) ∙ subst (λ (k : ℕ). map.get (map.remove index.held h) k ≡ Some x) same e in absurd cc
      | inr other ↦ sym (kept_elsewhere index.held h q other) ∙ e
    ]

    removed_each : (t : ℕ) → t < slots → is_used chunk block new t ≡ true → (q : ℕ) × (x : HeldReplica) × (map.get (map.remove index.held h) q ≡ Some x) × (x.slot ≡ t)
    removed_each t lt used = elim (cases_eq t found.slot) [
      | inl same ↦ absurd (not_both (is_used chunk block new t) used (ap (is_used chunk block new) same ∙ gone))
      | inr other ↦
          let was = is.each t lt (sym (used_still chunk block slots index disk d is new found.slot fits keeps t lt other) ∙ used) in
          elim (cases_eq was.0 h) [
            | inl same ↦
                let both : Some found ≡ Some was.1 = sym there ∙ ap (λ (k : ℕ). map.get index.held k) (sym same) ∙ was.2 in
                let is_x : found ≡ was.1 = cc in
                absurd (other (sym was.3 ∙ sym (ap (λ (y : HeldReplica). y.slot) is_x)))
            | inr another ↦ (was.0, was.1, kept_elsewhere index.held h was.0 another ∙ was.2, was.3)
          ]
    ]

    pub replica_removed : IsDiskOf chunk block slots (record { held = map.remove index.held h; free = insert_key nat_cmp index.free found.slot }) new (record d { replicas = map.remove d.replicas h })
    replica_removed =
        let its = its_replica chunk block slots index disk d is h found there in
        let used = used_by chunk block disk found.slot h its.0 its.2.holds in
        let within = its.2.there in
        record {
          chunk_is = is.chunk_is;
          block_is = is.block_is;
          slots_is = is.slots_is;
          head = head_still chunk block slots index disk d is new found.slot fits keeps;
          order_is = order_kept chunk block slots index disk d is new found.slot fits keeps;
          held = removed_held;
          no_other = removed_none;
          each = removed_each;
          apart = λ a b x y p q e. is.apart a b x y (was_held a x p) (was_held b y q) e;
          free =
              ap (λ (l : List ℕ). insert_key nat_cmp l found.slot) is.free
              ∙ sym (one_put free_before free_after 0 slots found.slot (omega arith) (omega (arith, within)) (ap not used) (ap not gone)
              (λ t le lt other. ap not (used_still chunk block slots index disk d is new found.slot fits keeps t (omega (arith, lt)) other)));
        }

  pub within : (s : ℕ) (rest : List ℕ) → map.get index.held h ≡ None → index.free ≡ s ∷ rest → s < slots
  within s rest none first = let below = (lowest free_before 0 slots s rest (sym is.free ∙ first)).below in omega (arith, below)

  -- A new replica lies in the lowest free slot.
  module _ (s : ℕ) (rest : List ℕ) (none : map.get index.held h ≡ None) (first : index.free ≡ s ∷ rest) (r' : Replica) (row : Row)
      (keeps : KeepsAt (is_outside (slot_place chunk block s) (slot_size chunk block)) disk new) (holds : Holds chunk block new s h r') (row_is : row_of (Some r') ≡ Some row) where
    low : Lowest free_before 0 slots s
    low = lowest free_before 0 slots s rest (sym is.free ∙ first)

    unused : is_used chunk block disk s ≡ false
    unused = un_not (is_used chunk block disk s) low.is_one

    abbrev new_held : HeldReplica
    new_held = record { slot = s; row = row }

    abbrev held_now : map.FinMap nat_cmp HeldReplica
    held_now = map.insert index.held h new_held

    -- no other replica lies there
    elsewhere : (q : ℕ) (x : HeldReplica) → map.get index.held q ≡ Some x → (x.slot ≡ s → ⊥)
    elsewhere q x at same =
        let its = its_replica chunk block slots index disk d is q x at in
        not_both (is_used chunk block disk s) (ap (is_used chunk block disk) (sym same) ∙ used_by chunk block disk x.slot q its.0 its.2.holds) unused

    added_here : (r : Replica) → map.get (map.insert d.replicas h r') h ≡ Some r → (x : HeldReplica) × (map.get held_now h ≡ Some x) × IsKnown chunk block slots new h r x
    added_here r e =
        let both : Some r' ≡ Some r = sym (found_here d.replicas h r') ∙ e in
        let same : r' ≡ r = cc in
        let known : IsKnown chunk block slots new h r' new_held = record { there = within s rest none first; row = row_is; holds = holds } in
        (new_held, found_here index.held h new_held, subst (λ (x : Replica). IsKnown chunk block slots new h x new_held) same known)

    added_held : (q : ℕ) (r : Replica) → map.get (map.insert d.replicas h r') q ≡ Some r → (x : HeldReplica) × (map.get held_now q ≡ Some x) × IsKnown chunk block slots new q r x
    added_held q r e = elim (cases_eq q h) [
      | inl same ↦
          subst (λ (k : ℕ). (x : HeldReplica) × (map.get held_now k ≡ Some x) × IsKnown chunk block slots new k r x) (sym same) (added_here r (subst (λ (k : ℕ). map.get (map.insert d.replicas h r') k ≡ Some r) same e))
      | inr other ↦
          let k = is.held q r (sym (found_elsewhere d.replicas h r' q other) ∙ e) in
          (k.0, found_elsewhere index.held h new_held q other ∙ k.1, known_still chunk block slots index disk d is new s fits keeps q r k.0 (elsewhere q k.0 k.1) k.2)
    ]

    added_none : (q : ℕ) → map.get (map.insert d.replicas h r') q ≡ None → map.get held_now q ≡ None
    added_none q e = elim (cases_eq q h) [
      | inl same ↦ let f : Some r' ≡ None = sym (found_here d.replicas h r') ∙ subst (λ (k : ℕ). map.get (map.insert d.replicas h r') k ≡ None) same e in absurd cc
      | inr other ↦ found_elsewhere index.held h new_held q other ∙ is.no_other q (sym (found_elsewhere d.replicas h r' q other) ∙ e)
    ]

    -- under a handle the new replica, or one that was known
    lies : (q : ℕ) (x : HeldReplica) → map.get held_now q ≡ Some x → ((q ≡ h) × (x.slot ≡ s)) ⊎ (map.get index.held q ≡ Some x)
    lies q x e = elim (cases_eq q h) [
      | inl same ↦
          let both : Some new_held ≡ Some x = sym (found_here index.held h new_held) ∙ subst (λ (k : ℕ). map.get held_now k ≡ Some x) same e in
          let is_x : new_held ≡ x = cc in
          inl (same, sym (ap (λ (y : HeldReplica). y.slot) is_x))
      | inr other ↦ inr (sym (found_elsewhere index.held h new_held q other) ∙ e)
    ]

    added_apart : (a b : ℕ) (x y : HeldReplica) → map.get held_now a ≡ Some x → map.get held_now b ≡ Some y → x.slot ≡ y.slot → a ≡ b
    added_apart a b x y p q e = elim (lies a x p) [
      | inl v ↦ elim (lies b y q) [
        | inl w ↦ v.0 ∙ sym w.0
        | inr was ↦ absurd (elsewhere b y was (sym e ∙ v.1))
      ]
      | inr had ↦ elim (lies b y q) [
        | inl w ↦ absurd (elsewhere a x had (e ∙ w.1))
        | inr was ↦ is.apart a b x y had was e
      ]
    ]

    added_each : (t : ℕ) → t < slots → is_used chunk block new t ≡ true → (q : ℕ) × (x : HeldReplica) × (map.get held_now q ≡ Some x) × (x.slot ≡ t)
    added_each t lt used = elim (cases_eq t s) [
      | inl same ↦ (h, new_held, found_here index.held h new_held, sym same)
      | inr other ↦
          let was = is.each t lt (sym (used_still chunk block slots index disk d is new s fits keeps t lt other) ∙ used) in
          elim (cases_eq was.0 h) [
            | inl same ↦ let e : None ≡ Some was.1 = sym none ∙ ap (λ (k : ℕ). map.get index.held k) (sym same) ∙ was.2 in absurd cc
            | inr another ↦ (was.0, was.1, found_elsewhere index.held h new_held was.0 another ∙ was.2, was.3)
          ]
    ]

    pub replica_added : IsDiskOf chunk block slots (record { held = map.insert index.held h (record { slot = s; row = row }); free = rest }) new (with_replica d h r')
    replica_added = record {
      chunk_is = is.chunk_is;
      block_is = is.block_is;
      slots_is = is.slots_is;
      head = head_still chunk block slots index disk d is new s fits keeps;
      order_is = order_kept chunk block slots index disk d is new s fits keeps;
      held = added_held;
      no_other = added_none;
      apart = added_apart;
      each = added_each;
      free = sym (lowest_taken free_before free_after 0 slots s rest (sym is.free ∙ first) (ap not (used_by chunk block new s h r' holds))
          (λ t le lt other. ap not (used_still chunk block slots index disk d is new s fits keeps t (omega (arith, lt)) other)));
    }
