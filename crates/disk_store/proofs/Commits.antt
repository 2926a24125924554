-- What is kept when a change is committed.
use Rattle.std.proofs.Common.{◌≡◌, inl, inr, ℕ, ◌≤◌, List, [], ◌∷◌, refl, sym, ap, ◌∙◌, subst, Some}
use Rattle.gfs_types.specs.declared.ids.OrderNo.{OrderNo}
use Rattle.replica_store.specs.Replicas.{ServerDisk, disk_changed}
use Rattle.replica_store.specs.declared.change.StoreChange.{StoreChange}
use Rattle.store_disk.specs.declared.places.Layout.{Layout}
use Rattle.chunk_store.specs.Stores.{IsOpen, StoreState}
use Rattle.disk_store.specs.Known.{IsKnownOf, Rows}
use Rattle.chunk_store.specs.Reopening.{IsSaid}
use Rattle.disk_store.specs.Standing.{IsKept, IsRemembered, Leaves, LeavesMade, changes_of, disk_said, remembered}
use Rattle.disk_store.specs.declared.standing.DiskStoreState.{DiskStoreState}
use Rattle.disk_store.specs.declared.standing.DiskStoreState.TheVariants.{Open, Unread, Changing}
use Rattle.disk_store.proofs.Said.{says_one}
use Rattle.disk_store.proofs.Saying.{open_leaves}
use Rattle.disk_store.proofs.Keeping.{after_change, changing_kept, failed_leaves, read_kept, refused_kept}

-- where the standing says so, the store is open
pub open_as : {D : Type 0} (seen : D → List ℕ) (may_leave : D → List ℕ → Type 0) (store : StoreState D) (order : OrderNo) (rows : Rows) (d : ServerDisk) (standing : DiskStoreState) → IsKept seen may_leave store order rows d standing → standing ≡ Open → IsOpen seen may_leave store d
open_as seen may_leave store order rows d standing kept is = (subst (IsKept seen may_leave store order rows d) is kept).stands

module _ {D : Type 0} (seen : D → List ℕ) (may_leave : D → List ℕ → Type 0) (store : StoreState D) (order : OrderNo) (rows : Rows) (d : ServerDisk) (standing : DiskStoreState) (kept : IsKept seen may_leave store order rows d standing)
    (mid : StoreState D) (unchanged : mid ≡ record store { disk = mid.disk }) (still : (e : ServerDisk) → IsOpen seen may_leave store e → IsOpen seen may_leave mid e) (is : standing ≡ Open) where
  pub mid_kept : IsKept seen may_leave mid order rows d Open
  mid_kept = let open_kept = subst (IsKept seen may_leave store order rows d) is kept in read_kept seen may_leave store order rows d mid (ap (λ (s : StoreState D). s.layout) unchanged) (still d open_kept.stands) open_kept

  -- the disk was read
  pub looked_kept : IsKept seen may_leave mid order rows d standing
  looked_kept = subst (IsKept seen may_leave mid order rows d) (sym is) mid_kept

  -- and says what it said
  pub looked_said : (before : List (StoreState D)) → disk_said seen mid before standing ≡ d
  looked_said before = ap (disk_said seen mid before) is ∙ sym (says_one seen may_leave mid d mid_kept.stands)

  pub looked_anew : (before : List (StoreState D)) → IsKept seen may_leave mid order rows (disk_said seen mid before standing) standing
  looked_anew before = subst (λ (e : ServerDisk). IsKept seen may_leave mid order rows e standing) (sym (looked_said before)) looked_kept

module _ {D : Type 0} (seen : D → List ℕ) (may_leave : D → List ℕ → Type 0) (store : StoreState D) (order : OrderNo) (rows : Rows) (d : ServerDisk) (standing : DiskStoreState) (kept : IsKept seen may_leave store order rows d standing) (is : standing ≡ Open) where
  open_kept : IsKept seen may_leave store order rows d Open
  open_kept = subst (IsKept seen may_leave store order rows d) is kept

  module _ (change : StoreChange) (new : StoreState D) (laid : new.layout ≡ store.layout) where
    -- it wasn't begun
    pub unbegun_after : IsOpen seen may_leave new d → IsKept seen may_leave new order rows d (Unread (Some change))
    unbegun_after still = refused_kept seen may_leave new order rows d Open change refl (read_kept seen may_leave store order rows d new laid still open_kept)

    -- it was made
    pub made_after : (last : OrderNo) (got : Rows) → IsKnownOf last got (disk_changed d change) → IsOpen seen may_leave new (disk_changed d change) → IsKept seen may_leave new last got (disk_changed d change) Open
    made_after last got known is_now = after_change seen may_leave store order rows d new last got change laid open_kept known is_now

    -- it was made, and there was no memory for its row
    pub unknown_after : IsOpen seen may_leave new (disk_changed d change) → IsKept seen may_leave new order rows d (Changing change)
    unknown_after is_now = changing_kept seen may_leave store order rows d new change laid open_kept leaves
      where
        leaves : Leaves may_leave (record store { disk = new.disk }) d (disk_changed d change)
        leaves c left = elim (open_leaves seen may_leave new (disk_changed d change) is_now c left) [
          | inl says ↦ inr (subst (λ (l : Layout). IsSaid l.chunk l.block l.slots c (disk_changed d change)) laid says)
          | inr says ↦ inr (subst (λ (l : Layout). IsSaid l.chunk l.block l.slots c (disk_changed d change)) laid says)
        ]

    -- it failed on its way
    pub failed_after : (moment : D → ℕ) (left_since : D → ℕ → List ℕ → Type 0) → ((disk : D) (t : ℕ) (c : List ℕ) → t ≤ moment disk → may_leave disk c → left_since disk t c)
        → LeavesMade seen may_leave moment left_since store new change → IsKept seen may_leave new order rows d (Changing change)
    failed_after moment left_since counts_now made =
        changing_kept seen may_leave store order rows d new change laid open_kept (failed_leaves seen may_leave store order rows d moment left_since counts_now new change open_kept made)

-- a store that was made to say something says it
pub now_said : {D : Type 0} (seen : D → List ℕ) (may_leave : D → List ℕ → Type 0) (store : StoreState D) (order : OrderNo) (rows : Rows) (d : ServerDisk) (before : List (StoreState D)) → IsKept seen may_leave store order rows d Open → disk_said seen store before Open ≡ d
now_said seen may_leave store order rows d before kept = sym (says_one seen may_leave store d kept.stands)

-- how the store was is remembered, where it isn't open any more
module _ {D : Type 0} (seen : D → List ℕ) (store new : StoreState D) (before : List (StoreState D)) where
  of_before : (one two : DiskStoreState) (b : List (StoreState D)) → IsRemembered b one → (one ≡ Open → ⊥) → (two ≡ Open → ⊥) → disk_said seen new b two ≡ disk_said seen store b one
  of_before Open two b was shut closed = absurd (shut refl)
  of_before one Open b was shut closed = absurd (closed refl)
  of_before (Unread x) (Unread y) b was shut closed = ap (λ (l : List (StoreState D)). disk_said seen new l (Unread y)) was.1 ∙ sym (ap (λ (l : List (StoreState D)). disk_said seen store l (Unread x)) was.1)
  of_before (Unread x) (Changing y) b was shut closed = ap (λ (l : List (StoreState D)). disk_said seen new l (Changing y)) was.1 ∙ sym (ap (λ (l : List (StoreState D)). disk_said seen store l (Unread x)) was.1)
  of_before (Changing x) (Unread y) b was shut closed = ap (λ (l : List (StoreState D)). disk_said seen new l (Unread y)) was.1 ∙ sym (ap (λ (l : List (StoreState D)). disk_said seen store l (Changing x)) was.1)
  of_before (Changing x) (Changing y) b was shut closed = ap (λ (l : List (StoreState D)). disk_said seen new l (Changing y)) was.1 ∙ sym (ap (λ (l : List (StoreState D)). disk_said seen store l (Changing x)) was.1)

  -- whatever is under way then
  pub left_said : (standing other : DiskStoreState) → IsRemembered before standing → (other ≡ Open → ⊥) → disk_said seen new (remembered standing store before) other ≡ disk_said seen store before standing
  left_said Open Open was not_open = absurd (not_open refl)
  left_said Open (Unread change) was not_open = refl
  left_said Open (Changing change) was not_open = refl
  left_said (Unread x) other was not_open = of_before (Unread x) other before was (λ e. cc) not_open
  left_said (Changing x) other was not_open = of_before (Changing x) other before was (λ e. cc) not_open

  pub left_remembered : (standing other : DiskStoreState) → IsRemembered before standing → IsRemembered (remembered standing store before) other
  left_remembered standing Open was = tt
  left_remembered Open (Unread change) was = (store, refl)
  left_remembered Open (Changing change) was = (store, refl)
  left_remembered (Unread x) (Unread change) was = was
  left_remembered (Unread x) (Changing change) was = was
  left_remembered (Changing x) (Unread change) was = was
  left_remembered (Changing x) (Changing change) was = was

-- where something is under way, the store isn't open
pub under_way_closed : (standing : DiskStoreState) (change : StoreChange) → changes_of standing ≡ change ∷ [] → standing ≡ Open → ⊥
under_way_closed standing change is opened = let f : [] ≡ change ∷ [] = sym (ap changes_of opened) ∙ is in cc
