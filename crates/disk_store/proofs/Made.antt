-- What a call of the store on the disk leaves.
use Rattle.std.proofs.Common.{◌≡◌, ℕ, List, sym, subst}
use Rattle.replica_store.specs.declared.change.StoreChange.{StoreChange}
use Rattle.chunk_store.specs.Stores.{LeavesChange, StoreState}
use Rattle.chunk_store.proofs.States.{leaves_all}
use Rattle.disk_store.specs.Standing.{LeavesMade}

module _ {D : Type 0} (seen : D → List ℕ) (may_leave : D → List ℕ → Type 0) (moment : D → ℕ) (left_since : D → ℕ → List ℕ → Type 0) (old new : StoreState D) where
  pub change_made : (change : StoreChange) → LeavesChange seen moment left_since old new change → LeavesMade seen may_leave moment left_since old new change
  change_made change leaves d is = leaves d is.says

  -- of the change that was asked for
  pub made_as : (one two : StoreChange) → two ≡ one → LeavesMade seen may_leave moment left_since old new one → LeavesMade seen may_leave moment left_since old new two
  made_as one two same = subst (LeavesMade seen may_leave moment left_since old new) (sym same)

-- no call of the disk was made
pub none_made : {D : Type 0} (seen : D → List ℕ) (may_leave : D → List ℕ → Type 0) (moment : D → ℕ) (left_since : D → ℕ → List ℕ → Type 0) (store : StoreState D) → ((c : List ℕ) → left_since store.disk (moment store.disk) c → may_leave store.disk c)
    → (change : StoreChange) → LeavesMade seen may_leave moment left_since store store change
none_made seen may_leave moment left_since store only_now change d is = leaves_all seen may_leave store d is moment left_since only_now change d is.says
