-- What a stop leaves while a checkpoint is written.
use Rattle.std.proofs.Common.{◌≡◌, ◌⊎◌, ℕ, ◌+◌, ◌-◌, ◌<◌, ◌≤◌, false, ◌==◌, List, [], ◌∷◌, ◌++◌, length, get_or, take, drop, refl, sym, ap, subst, ◌∙◌, take-append-drop, arith, inl, inr, ⊎_elim}
use Rattle.std.proofs.lemmas.Bool.{cases_eq, ne_eqb}
use Rattle.std.proofs.lemmas.List.{drop_more}
use Rattle.disk.specs.Device.{ChangesOnly, Forgets, NoMore, Only}
use Rattle.disk_redo.specs.GateMoments.{LeavesOnly}
use Rattle.disk_redo.proofs.Moments.{joined}
use Rattle.log_records.specs.declared.record.Record.{Record}
use Rattle.oplog.specs.Areas.{AreaSays, AreaState, end_of}
use Rattle.oplog.specs.Entries.{entries, open_entries}
use Rattle.oplog.specs.Layout.{area_at, area_size}
use Rattle.oplog.specs.Disks.{area_of, other, DiskSays}
use Rattle.oplog.proofs.Disks.{area_lies, area_long, has_log}
use Rattle.oplog.specs.Logs.{IsOpen}
use Rattle.oplog.specs.declared.volume.LogVolume.{LogVolume}
use Rattle.oplog.specs.Writing.{area_with, is_area_open, IsStillClosed, IsWriting}
use Rattle.oplog.proofs.Changes.{widened}
use Rattle.oplog.proofs.Current.{current_stays, other_is_current}
use Rattle.oplog.specs.Checkpoints.{IsClosing, IsOldOrNew}

-- one byte changes
one_byte : (gate : ℕ) (d c : List ℕ) → gate < length d → ChangesOnly gate 1 d c → get_or c gate 0 ≡ get_or d gate 0 → c ≡ d
one_byte gate d c room is same =
    let size : length c ≡ length d = is.size in
    sym (take-append-drop gate c) ∙ ap (λ (l : List ℕ). take gate c ++ l) (drop_more c gate 0 (omega (arith, size, room))) ∙ ap (λ (l : List ℕ). l ++ get_or c gate 0 ∷ drop (gate + 1) c) is.before
    ∙ ap (λ (g : ℕ). take gate d ++ g ∷ drop (gate + 1) c) same ∙ ap (λ (l : List ℕ). take gate d ++ get_or d gate 0 ∷ l) is.after
    ∙ ap (λ (l : List ℕ). take gate d ++ l) (sym (drop_more d gate 0 room)) ∙ take-append-drop gate d

-- an open gate is closed
pub closing : (gate : ℕ) (d c : List ℕ) → gate < length d → get_or d gate 0 ≡ 1 → ChangesOnly gate 1 d c → IsClosing gate d c
closing gate d c room opened is = elim (cases_eq (get_or c gate 0) 1) [
  | inl still ↦ inl (one_byte gate d c room is (still ∙ sym opened))
  | inr shut ↦ inr (is, ne_eqb (get_or c gate 0) 1 shut)
]

module _ (size which : ℕ) (area : AreaState) (d : List ℕ) (large : 4096 ≤ size) (says : DiskSays size which area d) where
  abbrev there : ℕ
  there = area_at size (other which)

  abbrev m : ℕ
  m = area_size size

  lies : there + m ≤ length d
  lies = omega (arith, area_lies size (other which) large (omega arith), says.sized)

  pub gate_lies : there < length d
  gate_lies = omega (arith, lies, area_long size large)

  pub closed_says : (c : List ℕ) → ChangesOnly there 1 d c → get_or c there 0 == 1 ≡ false → DiskSays size which area c
  closed_says c is shut = current_stays size which area d c large says (widened there m there 1 d c is lies (omega arith) (omega (arith, area_long size large))) shut

  pub closing_says : (c : List ℕ) → IsClosing there d c → DiskSays size which area c
  closing_says c (inl same) = subst (DiskSays size which area) (sym same) says
  closing_says c (inr changed) = closed_says c changed.0 changed.1

  pub while_closing : (items : List Record) (c : List ℕ) → IsClosing there d c → IsOldOrNew area items c
  while_closing items c stop = inl (has_log size which area c (closing_says c stop))

  inside : (items : List Record) (c : List ℕ) → ChangesOnly there m d c → (is_area_open size (other which) c ≡ false) ⊎ AreaSays (area_with (area.number + 1) items) (area_of size (other which) c) → IsOldOrNew area items c
  inside items c is (inl shut) = inl (has_log size which area c (current_stays size which area d c large says is shut))
  inside items c is (inr new) = inr (has_log size (other which) (area_with (area.number + 1) items) c (other_is_current size which area d c large says is items new))

  pub while_writing : (items : List Record) (c : List ℕ) → IsWriting size (other which) (area_with (area.number + 1) items) d c → IsOldOrNew area items c
  while_writing items c stop = inside items c stop.elsewhere stop.inside

no_records : open_entries [] ≡ []
unfolding open_entries
no_records = refl

end_with : (number : ℕ) (items : List Record) → end_of (area_with number items) ≡ 13 + length (entries items)
end_with number items = omega (arith, ap (λ (l : List ℕ). length l) no_records)

-- the past is forgotten as a call begins
forgot : {D : Type 0} (moment : D → ℕ) (left_since : D → ℕ → List ℕ → Type 0) (old new : D) (may_leave P : List ℕ → Type 0) → Forgets (moment old) (moment new) (left_since old) (left_since new) may_leave
    → ((c : List ℕ) → left_since old (moment old) c → P c) → ((c : List ℕ) → may_leave c → P c) → LeavesOnly moment left_since old new P
forgot moment left_since old new may_leave P time before after = record {
  later = time.later;
  each = λ c left. ⊎_elim (before c) (after c) (time.nothing_else (moment old) c (omega arith) left);
  before = λ t c le left. ⊎_elim (λ was. inl was) (λ now. inr (after c now)) (time.nothing_else t c le left);
}

-- nothing was done yet
pub nothing_replaced : {D : Type 0} (seen : D → List ℕ) (may_leave : D → List ℕ → Type 0) (log : LogVolume D) (area : AreaState) (items : List Record) → IsOpen seen may_leave log area → IsOldOrNew area items (seen log.disk)
nothing_replaced seen may_leave log area items is_open = inl (has_log log.size log.which area (seen log.disk) is_open.says)

-- A checkpoint of an open log: the past is forgotten, the other area is closed, and it is written.
module _ {D : Type 0} (seen : D → List ℕ) (may_leave : D → List ℕ → Type 0) (moment : D → ℕ) (left_since : D → ℕ → List ℕ → Type 0)
    (log : LogVolume D) (area : AreaState) (is_open : IsOpen seen may_leave log area) (items : List Record)
    (only_now : (c : List ℕ) → left_since log.disk (moment log.disk) c → may_leave log.disk c)
    (begun : D) (same : seen begun ≡ seen log.disk) (crash : NoMore (may_leave log.disk) (may_leave begun)) (time : Forgets (moment log.disk) (moment begun) (left_since log.disk) (left_since begun) (may_leave begun))
    (start : ℕ) (start_is : start ≡ area_at log.size (other log.which)) where
  large : 4096 ≤ log.size
  large = is_open.large

  as_before : (c : List ℕ) → c ≡ seen log.disk → IsOldOrNew area items c
  as_before c is = subst (IsOldOrNew area items) (sym is) (inl (has_log log.size log.which area (seen log.disk) is_open.says))

  at_first : LeavesOnly moment left_since log.disk begun (IsOldOrNew area items)
  at_first = forgot moment left_since log.disk begun (may_leave begun) (IsOldOrNew area items) time
      (λ c left. as_before c (is_open.durable c (only_now c left))) (λ c left. as_before c (is_open.durable c (crash c left)))

  closing_there : (c : List ℕ) → IsClosing start (seen begun) c → IsClosing (area_at log.size (other log.which)) (seen log.disk) c
  closing_there c stop = subst (λ (k : ℕ). IsClosing k (seen log.disk) c) start_is (subst (λ (l : List ℕ). IsClosing start l c) same stop)

  pub once_closed : (c : List ℕ) → IsClosing start (seen begun) c → IsOldOrNew area items c
  once_closed c stop = while_closing log.size log.which area (seen log.disk) large is_open.says items c (closing_there c stop)

  pub until_closed : (closed : D) → LeavesOnly moment left_since begun closed (IsClosing start (seen begun)) → LeavesOnly moment left_since log.disk closed (IsOldOrNew area items)
  until_closed closed run = joined moment left_since log.disk begun closed (IsOldOrNew area items) (IsClosing start (seen begun)) (IsOldOrNew area items) at_first run (λ c p. p) once_closed

  module _ (closed : D) (changed : ChangesOnly start 1 (seen begun) (seen closed)) (shut : get_or (seen closed) start 0 == 1 ≡ false) where
    says_closed : DiskSays log.size log.which area (seen closed)
    says_closed = closing_says log.size log.which area (seen log.disk) large is_open.says (seen closed) (closing_there (seen closed) (inr (changed, shut)))

    size_is : length (seen closed) ≡ log.size
    size_is = says_closed.sized

    module _ (number : ℕ) (number_is : number ≡ area.number + 1) where
      pub once_written : (c : List ℕ) → IsWriting (length (seen closed)) (other log.which) (area_with number items) (seen closed) c → IsOldOrNew area items c
      once_written c stop = while_writing log.size log.which area (seen closed) large says_closed items c
          (subst (λ (k : ℕ). IsWriting k (other log.which) (area_with (area.number + 1) items) (seen closed) c) size_is
          (subst (λ (k : ℕ). IsWriting (length (seen closed)) (other log.which) (area_with k items) (seen closed) c) number_is stop))

      pub until_written : (run : LeavesOnly moment left_since begun closed (IsClosing start (seen begun))) (written : D)
          → LeavesOnly moment left_since closed written (IsWriting (length (seen closed)) (other log.which) (area_with number items) (seen closed)) → LeavesOnly moment left_since log.disk written (IsOldOrNew area items)
      until_written run written last =
          joined moment left_since log.disk closed written (IsOldOrNew area items) (IsWriting (length (seen closed)) (other log.which) (area_with number items) (seen closed)) (IsOldOrNew area items) (until_closed closed run) last (λ c p. p) once_written

      pub opened : (left : ℕ) (written : D) → length (entries items) + left ≡ log.room - 14
          → AreaSays (area_with number items) (area_of (length (seen closed)) (other log.which) (seen written))
          → ChangesOnly (area_at (length (seen closed)) (other log.which)) (area_size (length (seen closed))) (seen closed) (seen written)
          → Only (seen written) (may_leave written)
          → IsOpen seen may_leave (record log { disk = written; which = other log.which; start = start; number = number; end = log.room - 1 - left }) (area_with (area.number + 1) items)
      opened left written room says elsewhere durable = record {
        says =
            let is = subst (λ (k : ℕ). ChangesOnly (area_at k (other log.which)) (area_size k) (seen closed) (seen written)) size_is elsewhere in
            other_is_current log.size log.which area (seen closed) (seen written) large says_closed is items
            (subst (λ (k : ℕ). AreaSays (area_with k items) (area_of log.size (other log.which) (seen written))) number_is
            (subst (λ (k : ℕ). AreaSays (area_with number items) (area_of k (other log.which) (seen written))) size_is says));
        start = start_is;
        room = is_open.room;
        number = number_is;
        end = omega (arith, room, end_with (area.number + 1) items, is_open.room, area_long log.size large);
        small = is_open.small;
        large = is_open.large;
        durable = durable;
      }

    pub stays_open : (written : D) → IsStillClosed (length (seen closed)) (other log.which) (seen closed) (seen written) → Only (seen written) (may_leave written) → IsOpen seen may_leave (record log { disk = written }) area
    stays_open written still durable =
        let is = subst (λ (k : ℕ). IsStillClosed k (other log.which) (seen closed) (seen written)) size_is still in
        record {
          says = current_stays log.size log.which area (seen closed) (seen written) large says_closed is.elsewhere is.closed;
          start = is_open.start;
          room = is_open.room;
          number = is_open.number;
          end = is_open.end;
          small = is_open.small;
          large = is_open.large;
          durable = durable;
        }
