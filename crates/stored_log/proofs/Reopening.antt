-- A log that is opened again has what one of the disks has that a stop may leave.
use Rattle.std.proofs.Common.{◌≡◌, ℕ, ◌≤◌, true, false, List, [], ◌∷◌, ◌++◌, length, inl, inr, ⊎_elim, refl, sym, ap, subst, ◌∙◌}
use Rattle.disk.specs.Device.{Only}
use Rattle.disk_redo.specs.GateMoments.{LeavesOnly}
use Rattle.oplog.specs.Areas.{AreaState, AreaSays}
use Rattle.oplog.proofs.Areas.{area_unique}
use Rattle.oplog.specs.Disks.{area_of, is_formatted, HasLog}
use Rattle.oplog.specs.Formats.{is_format_2}
use Rattle.log_records.specs.declared.record.Record.{Record}
use Rattle.oplog.specs.NewLogs.{IsLogOf}
use Rattle.oplog.specs.Opening.{IsOpening}
use Rattle.oplog.specs.Reopening.{IsReopened}
use Rattle.oplog.proofs.NewestArea.{current_is, only_area}
use Rattle.oplog.proofs.SecondGate.{log_of_format_2, opened_log}
use Rattle.oplog.proofs.Whole.{front_formatted}
use Rattle.operation_log.specs.Logs.{IsDecided}
use Rattle.protocol.specs.Logged.{LogDisk, LogChange}
use Rattle.stored_log.specs.declared.standing.LogStanding.{LogStanding}
use Rattle.stored_log.specs.declared.standing.LogStanding.TheVariants.{Open, Unread, Appending, Checkpointing}
use Rattle.stored_log.specs.Kept.{changes_of, closed, HasKept, Leaves, LeavesDecided}

abbrev pub log_of : List Record → List Record → LogDisk
log_of items records = record { items = items; records = records }

log_formatted : (items records : List Record) (d : List ℕ) → HasLog items records d → is_formatted d ≡ true
log_formatted items records d log = sym (front_formatted d) ∙ ap is_formatted log.says.formatted

-- a disk has one log
logs_unique : (items records other_items other_records : List Record) (d : List ℕ) → 4096 ≤ length d → HasLog items records d → HasLog other_items other_records d → log_of other_items other_records ≡ log_of items records
logs_unique items records other_items other_records d large log other =
    let area : AreaState = record { number = log.number; items = items; records = records } in
    let other_area : AreaState = record { number = other.number; items = other_items; records = other_records } in
    let newest = current_is (length d) d large refl log.which area log.says in
    let here : AreaSays other_area (area_of (length d) log.which d) = only_area (length d) d large refl log.which other.which other_area other.says newest in
    ap (λ (a : AreaState). log_of a.items a.records) (area_unique other_area area (area_of (length d) log.which d) here log.says.says)

kept_formatted : (items records : List Record) (standing : LogStanding) (d : List ℕ) → HasKept items records standing d → is_formatted d ≡ true
kept_formatted items records Open d log = log_formatted items records d log
kept_formatted items records Unread d log = log_formatted items records d log
kept_formatted items records (Appending entry) d log = ⊎_elim (log_formatted items records d) (log_formatted items (records ++ entry ∷ []) d) log
kept_formatted items records (Checkpointing written) d log = ⊎_elim (log_formatted items records d) (log_formatted written [] d) log

-- what is kept is a log of format 2
kept_format_2 : (items records : List Record) (standing : LogStanding) (d : List ℕ) → HasKept items records standing d → is_format_2 d ≡ true
kept_format_2 items records Open d log = log_of_format_2 items records d log
kept_format_2 items records Unread d log = log_of_format_2 items records d log
kept_format_2 items records (Appending entry) d log = ⊎_elim (log_of_format_2 items records d) (log_of_format_2 items (records ++ entry ∷ []) d) log
kept_format_2 items records (Checkpointing written) d log = ⊎_elim (log_of_format_2 items records d) (log_of_format_2 written [] d) log

pub reopened : (items records : List Record) (standing : LogStanding) (d c : List ℕ) → HasKept items records standing d → IsReopened d c → HasKept items records standing c
reopened items records standing d c kept (inl same) = subst (HasKept items records standing) (sym same) kept
reopened items records standing d c kept (inr (inl new)) = let both : true ≡ false = sym (kept_formatted items records standing d kept) ∙ new.0 in absurd cc
reopened items records standing d c kept (inr (inr upgrading)) = let both : true ≡ false = sym (kept_format_2 items records standing d kept) ∙ upgrading.was.closed in absurd cc

-- the log that is found
pub log_found : (items records found_items found_records : List Record) (d : List ℕ) → 4096 ≤ length d → IsLogOf found_items found_records d → HasLog items records d → log_of found_items found_records ≡ log_of items records
log_found items records found_items found_records d large found log =
    logs_unique items records found_items found_records d large log (opened_log found_items found_records d (log_formatted items records d log) (log_of_format_2 items records d log) found)

left_decided : (items records : List Record) (standing : LogStanding) (c : List ℕ) → HasKept items records (closed standing) c
    → (left : LogDisk) × IsDecided (log_of items records) (changes_of standing) left × HasLog left.items left.records c
left_decided items records Open c log = (log_of items records, ([], refl), log)
left_decided items records Unread c log = (log_of items records, ([], refl), log)
left_decided items records (Appending entry) c (inl log) = (log_of items records, ([], refl), log)
left_decided items records (Appending entry) c (inr log) = (log_of items (records ++ entry ∷ []), (true ∷ [], refl), log)
left_decided items records (Checkpointing written) c (inl log) = (log_of items records, ([], refl), log)
left_decided items records (Checkpointing written) c (inr log) = (log_of written [], (true ∷ [], refl), log)

-- what a stop leaves of a disk that is handed back
pub disk_decided : {D : Type 0} (may_leave : D → List ℕ → Type 0) (disk : D) (items records : List Record) (standing : LogStanding) → Leaves may_leave disk items records (closed standing)
    → LeavesDecided may_leave disk (log_of items records) (changes_of standing)
disk_decided may_leave disk items records standing kept c left = left_decided items records standing c (kept c left)

-- The disk of a log that was handed back stops, and begins again.
module _ {D : Type 0} (seen : D → List ℕ) (may_leave : D → List ℕ → Type 0) (moment : D → ℕ) (left_since : D → ℕ → List ℕ → Type 0) (log : LogDisk) (under_way : List LogChange) where
  -- the log that is found there has the changes under way or not
  pub log_again : (left : D) (bytes : List ℕ) (found : LogDisk) → 4096 ≤ length bytes → LeavesDecided may_leave left log under_way → may_leave left bytes → IsLogOf found.items found.records bytes → IsDecided log under_way found
  log_again left bytes found large leaves is there =
      let kept = leaves bytes is in
      (kept.1.0, log_found kept.0.items kept.0.records found.items found.records bytes large there kept.2 ∙ kept.1.1)

  -- where it can't be opened, a stop leaves what it left
  pub still_decided : (left old new : D) → LeavesDecided may_leave left log under_way → may_leave left (seen old) → Only (seen old) (may_leave old) → LeavesOnly moment left_since old new (IsOpening (seen old) (may_leave old))
      → ((disk : D) (t : ℕ) (c : List ℕ) → t ≤ moment disk → may_leave disk c → left_since disk t c) → LeavesDecided may_leave new log under_way
  still_decided left old new leaves is only run counts_now c there =
      let kept = leaves (seen old) is in (
        kept.0,
        kept.1,
        reopened kept.0.items kept.0.records Open (seen old) c kept.2 (as_reopened (run.each c (counts_now new (moment old) c run.later there))),
      )
    where
      as_reopened : IsOpening (seen old) (may_leave old) c → IsReopened (seen old) c
      as_reopened (inl was) = inl (only c was)
      as_reopened (inr other) = inr other
