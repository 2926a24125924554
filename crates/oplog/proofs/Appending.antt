-- What `append` makes of an open log.
use Rattle.std.proofs.Common.{◌≡◌, ℕ, ◌+◌, ◌<◌, ◌≤◌, ◌^◌, true, List, [], ◌∷◌, ◌++◌, length, sym, ap, subst, ◌∙◌, arith, inl, inr, length-append}
use Rattle.std.proofs.lemmas.Bool.{leb-true}
use Rattle.disk.specs.Bytes.{put_at}
use Rattle.disk.specs.Device.{Only}
use Rattle.disk_redo.specs.Gates.{committed, IsCommitting, IsUncommitted}
use Rattle.disk_redo.specs.GateMoments.{LeavesOnly}
use Rattle.disk_redo.proofs.Moments.{started}
use Rattle.disk_redo.proofs.Ranges.{put_changes}
use Rattle.log_records.specs.declared.record.Record.{Record}
use Rattle.log_codec.specs.Payloads.{payload}
use Rattle.oplog.specs.Entries.{entry, IsLogged}
use Rattle.oplog.specs.Areas.{AreaState, end_of}
use Rattle.oplog.specs.Layout.{area_at, area_size, record_fits}
use Rattle.oplog.proofs.Parsing.{entry_len}
use Rattle.oplog.specs.Disks.{DiskSays, HasLog}
use Rattle.oplog.specs.Changes.{appended, IsBeforeOrAfter}
use Rattle.oplog.specs.Logs.{IsOpen}
use Rattle.oplog.specs.declared.volume.LogVolume.{LogVolume}
use Rattle.oplog.proofs.DiskAreas.{end_more}
use Rattle.oplog.proofs.Disks.{areas_fit, has_log, first_write, both_written, stopped, room}

module _ {D : Type 0} (seen : D → List ℕ) (may_leave : D → List ℕ → Type 0) (log : LogVolume D) (area : AreaState) (is_open : IsOpen seen may_leave log area) where
  -- what a read gives before the first call
  pub nothing_left : (r : Record) → IsBeforeOrAfter area r (seen log.disk)
  nothing_left r = inl (has_log log.size log.which area (seen log.disk) is_open.says)

  -- before the first call, and where there is none
  pub nothing_done : (moment : D → ℕ) (left_since : D → ℕ → List ℕ → Type 0) (r : Record) → ((c : List ℕ) → left_since log.disk (moment log.disk) c → may_leave log.disk c)
      → LeavesOnly moment left_since log.disk log.disk (IsBeforeOrAfter area r)
  nothing_done moment left_since r only_now =
      started moment left_since log.disk (IsBeforeOrAfter area r) (λ c left. inl (subst (HasLog area.items area.records) (sym (is_open.durable c (only_now c left))) (has_log log.size log.which area (seen log.disk) is_open.says)))

module _ {D : Type 0} (seen : D → List ℕ) (may_leave : D → List ℕ → Type 0) (log : LogVolume D) (area : AreaState) (is_open : IsOpen seen may_leave log area) (r : Record)
    (has_room : record_fits (area_size log.size) area r ≡ true) where
  abbrev bytes : List ℕ
  bytes = entry r ++ 0 ∷ []

  large : 4096 ≤ log.size
  large = is_open.large

  wanted : end_of area + (5 + length (payload r)) + 1 ≤ area_size log.size
  wanted = leb-true _ _ has_room

  fit : end_of area + 1 + length bytes ≤ area_size log.size
  fit = omega (arith, wanted, length-append (entry r) (0 ∷ []), entry_len r)

  pub short : length (payload r) < 2 ^ 32
  short = omega (arith, wanted, areas_fit log.size is_open.large, is_open.small)

  abbrev place : ℕ
  place = log.start + log.end

  place_is : place ≡ area_at log.size log.which + end_of area
  place_is = omega (arith, is_open.start, is_open.end)

  module _ (logged : IsLogged r) where
    pub within : place + 1 + length bytes ≤ length (seen log.disk)
    within = subst (λ (k : ℕ). k + 1 + length bytes ≤ length (seen log.disk)) (sym place_is) (room log.size log.which area r (seen log.disk) large is_open.says logged fit)

    pub after_stop : (c : List ℕ) → IsCommitting (seen log.disk) (place + 1) bytes place c → IsBeforeOrAfter area r c
    after_stop c stop = stopped log.size log.which area r (seen log.disk) large is_open.says logged fit c (subst (λ (k : ℕ). IsCommitting (seen log.disk) (k + 1) bytes k c) place_is stop)

    pub appends : (new : D) → seen new ≡ committed (seen log.disk) (place + 1) bytes place → Only (seen new) (may_leave new)
        → IsOpen seen may_leave (record log { disk = new; end = log.end + length bytes }) (appended area r)
    appends new is only = record {
      says = subst (DiskSays log.size log.which (appended area r)) (sym (is ∙ ap (λ (k : ℕ). committed (seen log.disk) (k + 1) bytes k) place_is)) (both_written log.size log.which area r (seen log.disk) large is_open.says logged fit);
      start = is_open.start;
      room = is_open.room;
      number = is_open.number;
      end = ap (λ (k : ℕ). k + length bytes) is_open.end ∙ sym (end_more area r);
      small = is_open.small;
      large = is_open.large;
      durable = only;
    }

    says_still : (d : List ℕ) → IsUncommitted (seen log.disk) (place + 1) bytes d → DiskSays log.size log.which area d
    says_still d (inl same) = subst (DiskSays log.size log.which area) (sym same) is_open.says
    says_still d (inr wrote) =
        let fits = room log.size log.which area r (seen log.disk) large is_open.says logged fit in
        subst (DiskSays log.size log.which area) (sym (wrote ∙ ap (λ (k : ℕ). put_at (seen log.disk) (k + 1) bytes) place_is))
        (first_write log.size log.which area r (seen log.disk) large is_open.says logged fit _ (put_changes (seen log.disk) bytes (area_at log.size log.which + end_of area + 1) fits))

    pub stays : (new : D) → IsUncommitted (seen log.disk) (place + 1) bytes (seen new) → Only (seen new) (may_leave new) → IsOpen seen may_leave (record log { disk = new }) area
    stays new is only = record {
      says = says_still (seen new) is;
      start = is_open.start;
      room = is_open.room;
      number = is_open.number;
      end = is_open.end;
      small = is_open.small;
      large = is_open.large;
      durable = only;
    }
