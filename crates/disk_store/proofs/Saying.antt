-- What a stop leaves says.
use Rattle.std.proofs.Common.{◌≡◌, inl, inr, ℕ, ◌≤◌, List, refl, sym, subst, Option, None, Some}
use Rattle.std.specs.Prelude.{Err, Ok, OnErr, OnOk, Result}
use Rattle.disk_redo.specs.Redo.{StandsOnly, stands_for}
use Rattle.replica_store.specs.Replicas.{Replica, ServerDisk, disk_changed, replica_becomes, replica_of}
use Rattle.replica_store.specs.declared.change.StoreChange.{StoreChange}
use Rattle.replica_store.specs.declared.change.StoreChange.TheVariants.{SetOrder, Put, Write, Zero, Raise, Copy, Remove, Rot}
use Rattle.store_changes.specs.Areas.{area_of}
use Rattle.chunk_store.specs.Stores.{IsOpen, StoreState}
use Rattle.chunk_store.specs.Reopening.{IsSaid}
use Rattle.disk_store.specs.Standing.{Leaves}

-- what holds, holds of an error
pub on_err : {T E P : Type 0} (r : Result T E) → P → OnErr r P
on_err (Ok x) p = tt
on_err (Err e) p = p

pub on_ok : {T E P : Type 0} (r : Result T E) → P → OnOk r P
on_ok (Ok x) p = p
on_ok (Err e) p = tt

abbrev AreAlike : ServerDisk → ServerDisk → Type 0
AreAlike d e = (d.chunk ≡ e.chunk) × (d.block ≡ e.block) × (d.slots ≡ e.slots)

becomes_alike : (f : Replica → Replica) (d : ServerDisk) (h : ℕ) (o : Option Replica) → AreAlike (replica_becomes f d h o) d
becomes_alike f d h None = (refl, refl, refl)
becomes_alike f d h (Some r) = (refl, refl, refl)

-- the disk's sizes stay
pub changed_alike : (d : ServerDisk) (change : StoreChange) → AreAlike (disk_changed d change) d
changed_alike d (SetOrder order) = (refl, refl, refl)
changed_alike d (Put handle version serial bytes) = (refl, refl, refl)
changed_alike d (Write handle serial offset bytes) = becomes_alike _ d handle.0 (replica_of d handle.0)
changed_alike d (Zero handle serial offset count) = becomes_alike _ d handle.0 (replica_of d handle.0)
changed_alike d (Raise handle version) = becomes_alike _ d handle.0 (replica_of d handle.0)
changed_alike d (Copy handle copy version) = becomes_alike _ d copy.0 (replica_of d handle.0)
changed_alike d (Remove handle) = (refl, refl, refl)
changed_alike d (Rot handle place byte) = becomes_alike _ d handle.0 (replica_of d handle.0)

module _ {D : Type 0} (seen : D → List ℕ) (may_leave : D → List ℕ → Type 0) (store : StoreState D) where
  -- a stop leaves what an open store says
  pub open_leaves : (d : ServerDisk) → IsOpen seen may_leave store d → Leaves may_leave store d d
  open_leaves d is c left =
      inl (subst (λ (l : List ℕ). IsSaid store.layout.chunk store.layout.block store.layout.slots l d) (sym (is.rest.durable c left)) (store.index, is.says))

  pub either_leaves : (d e : ServerDisk) → Leaves may_leave store d d → Leaves may_leave store d e
  either_leaves d e leaves c left = elim (leaves c left) [
    | inl says ↦ inl says
    | inr says ↦ inl says
  ]

module _ {D : Type 0} (may_leave : D → List ℕ → Type 0) (moment : D → ℕ) (left_since : D → ℕ → List ℕ → Type 0) (seen : D → List ℕ) (counts_now : (disk : D) (t : ℕ) (c : List ℕ) → t ≤ moment disk → may_leave disk c → left_since disk t c) where
  -- what is left at the end is left at some moment of the call
  pub left_at_end : (chunk block : ℕ) (old new : D) (P : List ℕ → Type 0) → StandsOnly seen moment left_since (area_of chunk block) old new P → (c : List ℕ) → may_leave new c → P (stands_for (area_of chunk block) c)
  left_at_end chunk block old new P stands c left = stands.stop.each c (counts_now new (moment old) c stands.stop.later left)
