-- How a store stands to its disk.
use Rattle.std.specs.Prelude.{◌≡◌, ◌⊎◌, ⊤, ℕ, ◌%◌, Bool, true, false, List, [], ◌∷◌, None, Some}
use Rattle.std.specs.Option.{option_to_list}
use Rattle.gfs_types.specs.declared.ids.OrderNo.{OrderNo}
use Rattle.disk_redo.specs.Redo.{StandsOnly}
use Rattle.replica_store.specs.Replicas.{ServerDisk, disk_changed, disk_changed_by_all}
use Rattle.replica_store.specs.declared.change.StoreChange.{StoreChange}
use Rattle.replica_store.specs.declared.change.StoreChange.TheVariants.{SetOrder, Put, Write, Zero, Raise, Copy, Remove, Rot}
use Rattle.store_changes.specs.Areas.{area_of}
use Rattle.store_disk.specs.Stored.{IsStored}
use Rattle.chunk_store.specs.Opening.{HoldsReplicas}
use Rattle.chunk_store.specs.Reopening.{IsSaid}
use Rattle.chunk_store.specs.Stores.{IsOpen, StoreState}
use Rattle.disk_store.specs.Known.{IsKnownOf, Rows, can_be_made}
use Rattle.disk_store.specs.Careful.{IsCareful}
use Rattle.disk_store.specs.Views.{disk_of}
use Rattle.disk_store.specs.declared.standing.DiskStoreState.{DiskStoreState}
use Rattle.disk_store.specs.declared.standing.DiskStoreState.TheVariants.{Open, Unread, Changing}

-- What is under way.
abbrev pub changes_of : DiskStoreState → List StoreChange
changes_of Open = []
changes_of (Unread change) = option_to_list change
changes_of (Changing change) = change ∷ []

-- what a store's callers see of it
pub record DiskStoreView : Type 0 where
  pub disk : ServerDisk
  pub under_way : List StoreChange
  pub is_open : Bool
  pub failed : ℕ

abbrev pub is_standing_open : DiskStoreState → Bool
is_standing_open Open = true
is_standing_open (Unread change) = false
is_standing_open (Changing change) = false

-- the store as it was before, where that is kept
abbrev pub before_or : {X : Type 0} → X → List X → X
before_or x [] = x
before_or x (y ∷ rest) = y

-- an open store is remembered as it is
abbrev pub remembered : {X : Type 0} → DiskStoreState → X → List X → List X
remembered Open store before = store ∷ []
remembered (Unread change) store before = before
remembered (Changing change) store before = before

-- how a store was that isn't open is known
abbrev pub IsRemembered : {X : Type 0} → List X → DiskStoreState → Type 0
IsRemembered before Open = ⊤
IsRemembered {X = X} before (Unread change) = (store : X) × (before ≡ store ∷ [])
IsRemembered {X = X} before (Changing change) = (store : X) × (before ≡ store ∷ [])

-- what the disk says; of a store that isn't open, what it said when it last was
abbrev pub disk_said : {D : Type 0} → (D → List ℕ) → StoreState D → List (StoreState D) → DiskStoreState → ServerDisk
disk_said seen store before Open = disk_of seen store
disk_said seen store before (Unread change) = disk_of seen (before_or store before)
disk_said seen store before (Changing change) = disk_of seen (before_or store before)

-- a change is under way that wasn't begun
abbrev pub refused : DiskStoreState → StoreChange → DiskStoreState
refused Open change = Unread (Some change)
refused (Unread other) change = Unread (Some change)
refused (Changing other) change = Changing other

-- It writes over a range of a replica.
abbrev pub writes : StoreChange → Bool
writes (SetOrder order) = false
writes (Put handle version serial bytes) = false
writes (Write handle serial offset bytes) = true
writes (Zero handle serial offset count) = true
writes (Raise handle version) = false
writes (Copy handle copy version) = false
writes (Remove handle) = false
writes (Rot handle place byte) = false

-- a stop leaves a disk that says one of these
abbrev pub Leaves : {D : Type 0} → (D → List ℕ → Type 0) → StoreState D → ServerDisk → ServerDisk → Type 0
Leaves may_leave store d e =
    (c : List ℕ) → may_leave store.disk c
    → IsSaid store.layout.chunk store.layout.block store.layout.slots c d ⊎ IsSaid store.layout.chunk store.layout.block store.layout.slots c e

-- what a stop leaves of a disk, opened again, holds what it said, with what is under way made or not
abbrev pub LeavesHolding : (List ℕ → Type 0) → ServerDisk → List StoreChange → Type 0
LeavesHolding left d under_way =
    (c : List ℕ) → left c
    → HoldsReplicas d.chunk d.block d.slots c d ⊎ HoldsReplicas d.chunk d.block d.slots c (disk_changed_by_all d under_way)

-- A change that isn't begun: it can't be made, or it isn't careful.
abbrev pub IsUnfit : ℕ → Rows → ServerDisk → StoreChange → Type 0
IsUnfit chunk rows d change = (can_be_made chunk rows change ≡ false) ⊎ (IsCareful chunk d change → ⊥)

-- An open store says d. Of another one a stop leaves d, with the change that failed or without it.
abbrev pub IsStandingTrue : {D : Type 0} → (D → List ℕ) → (D → List ℕ → Type 0) → StoreState D → ServerDisk → DiskStoreState → Type 0
IsStandingTrue seen may_leave store d Open = IsOpen seen may_leave store d
IsStandingTrue seen may_leave store d (Unread change) = Leaves may_leave store d d
IsStandingTrue seen may_leave store d (Changing change) = Leaves may_leave store d (disk_changed d change)

-- What is kept in memory is of the disk.
pub record IsKept {D : Type 0} (seen : D → List ℕ) (may_leave : D → List ℕ → Type 0) (store : StoreState D) (order : OrderNo) (rows : Rows) (d : ServerDisk) (standing : DiskStoreState) : Type 0 where
  pub chunk_is : d.chunk ≡ store.layout.chunk
  pub block_is : d.block ≡ store.layout.block
  pub slots_is : d.slots ≡ store.layout.slots
  pub whole : store.layout.chunk % store.layout.block ≡ 0
  pub known : IsKnownOf order rows d
  pub stands : IsStandingTrue seen may_leave store d standing

-- What is read, and what a stop at any moment leaves, says what the disk said before the change or after it.
abbrev pub LeavesMade : {D : Type 0} → (D → List ℕ) → (D → List ℕ → Type 0) → (D → ℕ) → (D → ℕ → List ℕ → Type 0) → StoreState D → StoreState D → StoreChange → Type 0
LeavesMade seen may_leave moment left_since old new change =
    (d : ServerDisk) → IsOpen seen may_leave old d
    → StandsOnly seen moment left_since (area_of old.layout.chunk old.layout.block) old.disk new.disk
    (λ bytes. IsStored old.layout.chunk old.layout.block old.layout.slots bytes d ⊎ IsStored old.layout.chunk old.layout.block old.layout.slots bytes (disk_changed d change))
