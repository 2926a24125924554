-- What is kept of a disk, whatever its standing.
use Rattle.std.proofs.Common.{◌≡◌, inl, inr, ℕ, ◌≤◌, ◌%◌, List, [], ◌∷◌, refl, sym, ap, ◌∙◌, subst, None, Some}
use Rattle.gfs_types.specs.declared.ids.OrderNo.{OrderNo}
use Rattle.replica_store.specs.Replicas.{ServerDisk, disk_changed}
use Rattle.replica_store.specs.declared.change.StoreChange.{StoreChange}
use Rattle.store_disk.specs.declared.places.Layout.{Layout}
use Rattle.chunk_store.specs.Stores.{IsOpen, StoreState}
use Rattle.disk_store.specs.Known.{IsKnownOf, Rows}
use Rattle.disk_store.specs.Standing.{IsKept, IsStandingTrue, Leaves, LeavesMade, changes_of, refused}
use Rattle.disk_store.specs.declared.standing.DiskStoreState.{DiskStoreState}
use Rattle.disk_store.specs.declared.standing.DiskStoreState.TheVariants.{Open, Unread, Changing}
use Rattle.disk_store.proofs.Saying.{changed_alike, open_leaves}

module _ {D : Type 0} (seen : D → List ℕ) (may_leave : D → List ℕ → Type 0) (store : StoreState D) (order : OrderNo) (rows : Rows) (d : ServerDisk) where
  abbrev Kept : DiskStoreState → Type 0
  Kept = IsKept seen may_leave store order rows d

  -- in another standing
  stands_as : (one two : DiskStoreState) → Kept one → IsStandingTrue seen may_leave store d two → Kept two
  stands_as one two kept stands = record { chunk_is = kept.chunk_is; block_is = kept.block_is; slots_is = kept.slots_is; whole = kept.whole; known = kept.known; stands = stands }

  pub refused_kept : (standing : DiskStoreState) (change : StoreChange) → changes_of standing ≡ [] → Kept standing → Kept (refused standing change)
  refused_kept Open change none kept = stands_as Open (Unread (Some change)) kept (open_leaves seen may_leave store d kept.stands)
  refused_kept (Unread other) change none kept = stands_as (Unread other) (Unread (Some change)) kept kept.stands
  refused_kept (Changing other) change none kept = absurd cc

  -- in a store of the same layout
  pub in_layout : (one two : DiskStoreState) (new : StoreState D) → new.layout ≡ store.layout → Kept one → IsStandingTrue seen may_leave new d two → IsKept seen may_leave new order rows d two
  in_layout one two new same kept stands = record {
    chunk_is = kept.chunk_is ∙ sym (ap (λ (l : Layout). l.chunk) same);
    block_is = kept.block_is ∙ sym (ap (λ (l : Layout). l.block) same);
    slots_is = kept.slots_is ∙ sym (ap (λ (l : Layout). l.slots) same);
    whole = ap (λ (l : Layout). l.chunk % l.block) same ∙ kept.whole;
    known = kept.known;
    stands = stands;
  }

  -- the disk was read
  pub read_kept : (new : StoreState D) → new.layout ≡ store.layout → IsOpen seen may_leave new d → Kept Open → IsKept seen may_leave new order rows d Open
  read_kept new same is kept = in_layout Open Open new same kept is

  -- a change failed on its way
  pub changing_kept : (new : StoreState D) (change : StoreChange) → new.layout ≡ store.layout → Kept Open → Leaves may_leave (record store { disk = new.disk }) d (disk_changed d change) → IsKept seen may_leave new order rows d (Changing change)
  changing_kept new change same kept leaves = in_layout Open (Changing change) new same kept
      (subst (λ (l : Layout). Leaves may_leave (record { disk = new.disk; layout = l; order = new.order; index = new.index; is_open = new.is_open }) d (disk_changed d change)) (sym same) leaves)

  -- a change was made, or found made
  pub after_change : (new : StoreState D) (after : OrderNo) (found : Rows) (change : StoreChange) {standing : DiskStoreState} → new.layout ≡ store.layout → Kept standing → IsKnownOf after found (disk_changed d change)
      → IsOpen seen may_leave new (disk_changed d change) → IsKept seen may_leave new after found (disk_changed d change) Open
  after_change new after found change same kept known is =
      let alike = changed_alike d change in
      record {
        chunk_is = alike.0 ∙ kept.chunk_is ∙ sym (ap (λ (l : Layout). l.chunk) same);
        block_is = alike.1 ∙ kept.block_is ∙ sym (ap (λ (l : Layout). l.block) same);
        slots_is = alike.2 ∙ kept.slots_is ∙ sym (ap (λ (l : Layout). l.slots) same);
        whole = ap (λ (l : Layout). l.chunk % l.block) same ∙ kept.whole;
        known = known;
        stands = is;
      }

  -- what a failed change leaves
  pub failed_leaves : (moment : D → ℕ) (left_since : D → ℕ → List ℕ → Type 0) (counts_now : (disk : D) (t : ℕ) (c : List ℕ) → t ≤ moment disk → may_leave disk c → left_since disk t c) (new : StoreState D) (change : StoreChange)
      → Kept Open → LeavesMade seen may_leave moment left_since store new change → Leaves may_leave (record store { disk = new.disk }) d (disk_changed d change)
  failed_leaves moment left_since counts_now new change kept made c left =
      let stands = made d kept.stands in
      stands.stop.each c (counts_now new.disk (moment store.disk) c stands.stop.later left)

-- what is under way in another standing
pub refused_is : (standing : DiskStoreState) (change : StoreChange) → changes_of standing ≡ [] → changes_of (refused standing change) ≡ change ∷ []
refused_is Open change none = refl
refused_is (Unread other) change none = refl
refused_is (Changing other) change none = absurd cc

-- of the same disk, in the same standing
pub as_said : {D : Type 0} (seen : D → List ℕ) (may_leave : D → List ℕ → Type 0) (store : StoreState D) (order : OrderNo) (rows : Rows) (d e : ServerDisk) (one two : DiskStoreState) → e ≡ d → two ≡ one → IsKept seen may_leave store order rows d one → IsKept seen may_leave store order rows e two
as_said seen may_leave store order rows d e one two said standing kept =
    subst (λ (s : DiskStoreState). IsKept seen may_leave store order rows e s) (sym standing) (subst (λ (x : ServerDisk). IsKept seen may_leave store order rows x one) (sym said) kept)
