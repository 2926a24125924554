-- What is kept of a log, over changes of it and of its disk.
use Rattle.std.proofs.Common.{◌≡◌, ◌⊎◌, ℕ, ◌+◌, ◌≤◌, true, List, [], ◌∷◌, ◌++◌, Option, None, Some, refl, sym, subst, ◌∙◌, arith}
use Rattle.std.specs.List.{AllByRecursion}
use Rattle.disk.specs.Device.{NoMore}
use Rattle.disk_redo.specs.GateMoments.{LeavesOnly}
use Rattle.log_codec.specs.Payloads.{IsWritable}
use Rattle.log_records.specs.declared.record.Record.{Record}
use Rattle.oplog.specs.Areas.{AreaState}
use Rattle.oplog.specs.Changes.{IsBeforeOrAfter}
use Rattle.oplog.specs.Checkpoints.{IsOldOrNew}
use Rattle.oplog.specs.Disks.{HasLog}
use Rattle.oplog.specs.Logs.{IsDurable, LogState, SameButDisk}
use Rattle.oplog.specs.Opening.{WalksThrough}
use Rattle.oplog.specs.declared.walk.Walk.{Walk}
use Rattle.stored_log.specs.declared.standing.LogStanding.{LogStanding}
use Rattle.stored_log.specs.declared.standing.LogStanding.TheVariants.{Open, Unread, Appending, Checkpointing}
use Rattle.stored_log.specs.Kept.{all_entries, closed, HasKept, IsKept, IsWritten, KeepsWalk, Leaves, Takes}

pub same_taken : (used : ℕ) (items records items_after records_after : List Record) → items_after ≡ items → records_after ≡ records → Takes used items records → Takes used items_after records_after
same_taken used items records items_after records_after items_are records_are takes =
    subst (λ (l : List Record). Takes used items_after l) (sym records_are) (subst (λ (l : List Record). Takes used l records) (sym items_are) takes)

-- no item is written
pub no_writing : (written : ℕ) (writing : List Record) → written ≡ 13 → writing ≡ [] → IsWritten written writing
no_writing written writing is none =
    (subst (λ (n : ℕ). Takes n writing []) (sym is) (same_taken 13 [] [] writing [] none refl (refl, omega arith)), subst (AllByRecursion IsWritable) (sym none) tt)

-- an area that says the same takes as many bytes
pub area_taken : (used : ℕ) (old new : AreaState) → new ≡ old → Takes used old.items old.records → Takes used new.items new.records
area_taken used old new same takes = subst (λ (a : AreaState). Takes used a.items a.records) (sym same) takes

pub walk_kept : (all : List Record) (walk : Option Walk) → WalksThrough all walk → KeepsWalk all walk
walk_kept all None through = tt
walk_kept all (Some walk) through = through.0

area_kept : (standing : LogStanding) (old new : AreaState) (c : List ℕ) → new ≡ old → HasKept old.items old.records standing c → HasKept new.items new.records standing c
area_kept standing old new c same kept = subst (λ (a : AreaState). HasKept a.items a.records standing c) (sym same) kept

module _ {D : Type 0} (seen : D → List ℕ) (may_leave : D → List ℕ → Type 0) where
  -- what a stop of an open log leaves
  open_leaves : (log : LogState D) → IsDurable seen may_leave log → (c : List ℕ) → may_leave log.disk c → HasLog log.area.items log.area.records c
  open_leaves log is c left = subst (HasLog log.area.items log.area.records) (sym (is.only c left)) is.says

  -- what a stop leaves of a log that isn't open any more
  pub closed_leaves : (log : LogState D) (standing : LogStanding) → (log.is_open ≡ true → IsDurable seen may_leave log) → IsKept may_leave log standing → Leaves may_leave log.disk log.area.items log.area.records (closed standing)
  closed_leaves log Open durable kept = open_leaves log (durable kept)
  closed_leaves log Unread durable kept = kept
  closed_leaves log (Appending entry) durable kept = kept
  closed_leaves log (Checkpointing written) durable kept = kept

module _ {D : Type 0} (may_leave : D → List ℕ → Type 0) where
  -- an open log stays open
  pub still_kept : (new : LogState D) (standing : LogStanding) → standing ≡ Open → new.is_open ≡ true → IsKept may_leave new standing
  still_kept new standing is opened = subst (IsKept may_leave new) (sym is) opened

  -- the same log, of whose disk a stop leaves no more
  pub same_kept : (old new : LogState D) (standing : LogStanding) → SameButDisk old new → NoMore (may_leave old.disk) (may_leave new.disk) → IsKept may_leave old standing → IsKept may_leave new standing
  same_kept old new Open same more kept = same.is_open ∙ kept
  same_kept old new Unread same more kept = λ c left. area_kept Unread old.area new.area c same.area (kept c (more c left))
  same_kept old new (Appending entry) same more kept = λ c left. area_kept (Appending entry) old.area new.area c same.area (kept c (more c left))
  same_kept old new (Checkpointing written) same more kept = λ c left. area_kept (Checkpointing written) old.area new.area c same.area (kept c (more c left))

  module _ (moment : D → ℕ) (left_since : D → ℕ → List ℕ → Type 0) (counts_now : (disk : D) (t : ℕ) (c : List ℕ) → t ≤ moment disk → may_leave disk c → left_since disk t c) where
    -- what a stop leaves at the end of a run
    ends : (old new : D) (P : List ℕ → Type 0) → LeavesOnly moment left_since old new P → (c : List ℕ) → may_leave new c → P c
    ends old new P run c left = run.each c (counts_now new (moment old) c run.later left)

    -- an append failed on its way
    pub append_failed : (old new : LogState D) (r : Record) → new.area ≡ old.area → LeavesOnly moment left_since old.disk new.disk (IsBeforeOrAfter old.area r) → IsKept may_leave new (Appending r)
    append_failed old new r same run c left = area_kept (Appending r) old.area new.area c same (ends old.disk new.disk (IsBeforeOrAfter old.area r) run c left)

    -- a checkpoint failed on its way
    pub checkpoint_failed : (old new : LogState D) (written counted : List Record) → new.area ≡ old.area → LeavesOnly moment left_since old.disk new.disk (IsOldOrNew old.area written) → counted ≡ written → IsKept may_leave new (Checkpointing counted)
    checkpoint_failed old new written counted same run written_is c left =
        let is = ends old.disk new.disk (IsOldOrNew old.area written) run c left in
        area_kept (Checkpointing counted) old.area new.area c same (subst (λ (l : List Record). HasLog old.area.items old.area.records c ⊎ HasLog l [] c) (sym written_is) is)
