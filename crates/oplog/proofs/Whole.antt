-- What stands on a disk, and what a stop within an opening leaves.
use Rattle.std.proofs.Common.{◌≡◌, ◌⊎◌, ⊎_elim, ℕ, ◌≤◌, Bool, true, false, ◌==◌, List, [], ◌++◌, length, take, Option, None, refl, sym, ap, subst, ◌∙◌, arith, inl, inr}
use Rattle.std.specs.Prelude.{Err, IfOk, Ok, OnOk, Result}
use Rattle.std.proofs.lemmas.List.{get_or-take}
use Rattle.disk.specs.Device.{ChangesOnly, Follows, Only}
use Rattle.disk_redo.specs.GateMoments.{LeavesOnly, OnlyReads}
use Rattle.disk_redo.proofs.Moments.{joined, weaker}
use Rattle.log_records.specs.declared.record.Record.{Record}
use Rattle.oplog.specs.Areas.{end_of, AreaState}
use Rattle.oplog.specs.Entries.{entries, open_entries}
use Rattle.oplog.specs.Layout.{area_at, area_size}
use Rattle.disk.specs.Bytes.{range_at}
use Rattle.oplog.specs.Disks.{area_of, is_formatted, DiskSays, HasLog}
use Rattle.oplog.proofs.Disks.{has_log}
use Rattle.oplog.proofs.SecondGate.{while_upgrading}
use Rattle.oplog.specs.Logs.{IsOpen}
use Rattle.oplog.specs.declared.volume.LogVolume.{LogVolume}
use Rattle.oplog.specs.declared.fault.LogFault.{LogFault}
use Rattle.oplog.specs.Writing.{area_with}
use Rattle.oplog.specs.Formats.{HasLogOfFormat1, IsUpgrading}
use Rattle.oplog.specs.NewLogs.{IsLogOf}
use Rattle.oplog.specs.declared.walk.Walk.{Walk}
use Rattle.oplog.specs.Reopening.{IsReopened}
use Rattle.oplog.specs.Opening.{area_found, IsFound, IsOpening, WalksThrough}
use Rattle.oplog.specs.declared.found.FoundArea.{FoundArea}

no_entries : length (entries []) ≡ 0
unfolding entries
no_entries = refl

no_records : length (open_entries []) ≡ 0
unfolding open_entries
no_records = refl

end_of_new : end_of (area_with 1 []) ≡ 13
end_of_new = omega (arith, no_entries, no_records)

-- the head's gate is read with the head
pub front_formatted : (d : List ℕ) → is_formatted (take 16 d) ≡ is_formatted d
front_formatted d = ap (λ (k : ℕ). k == 1) (get_or-take 16 d 15 0 (omega arith))

-- so of a disk that was read
pub gate_is : (b v : Bool) (front items d : List ℕ) → b ≡ is_formatted front → front ≡ items → items ≡ take 16 d → b ≡ v → is_formatted d ≡ v
gate_is b v front items d tests value bytes is =
    sym (front_formatted d) ∙ ap is_formatted (sym bytes) ∙ ap is_formatted (sym value) ∙ sym tests ∙ is

pub on_ok : {T E P : Type 0} (r : Result T E) → P → OnOk r P
on_ok (Ok x) p = p
on_ok (Err e) p = tt

-- what was found is the disk's log
pub found_log : (found : FoundArea) (d : List ℕ) → IsFound found d → IsLogOf found.items found.records d
found_log found d is = inr (inl (has_log (length d) found.which (area_found found) d is.says))

pub found_logs : (r : Result FoundArea LogFault) (d : List ℕ) → IfOk r (λ x. IsFound x d) → IfOk r (λ x. IsLogOf x.items x.records d)
found_logs (Ok x) d is = found_log x d is
found_logs (Err e) d is = tt

pub old_logs : (r : Result FoundArea LogFault) (d : List ℕ) → IfOk r (λ x. HasLogOfFormat1 x.items x.records d) → IfOk r (λ x. IsLogOf x.items x.records d)
old_logs (Ok x) d was = inr (inr was)
old_logs (Err e) d was = tt

-- one test or the other
pub headed : (b : Bool) → b ≡ true → b ≡ false → ⊥
headed b opened shut = let both : true ≡ false = sym opened ∙ shut in absurd cc

abbrev pub state_of : ℕ → List Record → List Record → AreaState
state_of number items records = record { number = number; items = items; records = records }

nothing_found : (found : FoundArea) → found.number ≡ 1 → found.items ≡ [] → found.records ≡ [] → area_found found ≡ area_with 1 []
nothing_found found number items records =
    ap (λ (k : ℕ). state_of k found.items found.records) number ∙ ap (λ (l : List Record). state_of 1 l found.records) items ∙ ap (λ (l : List Record). state_of 1 [] l) records

-- a log that was formatted was found
pub formatted_found : (found : FoundArea) (n : ℕ) (d : List ℕ) → found.which ≡ 0 → found.number ≡ 1 → found.items ≡ [] → found.records ≡ [] → found.end ≡ 13 → found.walk ≡ None → DiskSays n 0 (area_with 1 []) d → IsFound found d
formatted_found found n d at number items records ends no_walk says =
    let empty = nothing_found found number items records in
    let of_size : DiskSays (length d) 0 (area_with 1 []) d = subst (λ (k : ℕ). DiskSays k 0 (area_with 1 []) d) (sym says.sized) says in
    let of_area : DiskSays (length d) 0 (area_found found) d = subst (λ (a : AreaState). DiskSays (length d) 0 a d) (sym empty) of_size in
    record {
      says = subst (λ (k : ℕ). DiskSays (length d) k (area_found found) d) (sym at) of_area;
      end = ends ∙ sym (ap (λ (a : AreaState). end_of a) empty ∙ end_of_new);
      walk = subst (λ (w : Option Walk). WalksThrough (found.items ++ found.records) w) (sym no_walk) (ap (λ (l : List Record). l ++ found.records) items ∙ records);
    }

-- on a disk with a closed head none is
pub found_none : (items records : List Record) (d : List ℕ) → is_formatted d ≡ false → items ≡ [] → records ≡ [] → IsLogOf items records d
found_none items records d shut empty none = inl (record { closed = shut; no_items = empty; no_records = none })

module _ {D : Type 0} (seen : D → List ℕ) (may_leave : D → List ℕ → Type 0) (moment : D → ℕ) (left_since : D → ℕ → List ℕ → Type 0) where
  abbrev pub Opening : D → List ℕ → Type 0
  Opening old = IsOpening (seen old) (may_leave old)

  -- reads alone
  pub reads_open : (old new : D) → OnlyReads seen may_leave moment left_since old new → LeavesOnly moment left_since old new (Opening old)
  reads_open old new reads = weaker moment left_since old new (may_leave old) (Opening old) reads.any_moment (λ c left. inl left)

  pub reads_opened : (old mid new : D) → OnlyReads seen may_leave moment left_since old mid → OnlyReads seen may_leave moment left_since mid new → LeavesOnly moment left_since old new (Opening old)
  reads_opened old mid new first second =
      joined moment left_since old mid new (may_leave old) (may_leave mid) (Opening old) first.any_moment second.any_moment (λ c left. inl left) (λ c left. inl (first.crash c left))

  -- a new log is formatted after reads
  pub format_opened : (old mid new : D) → OnlyReads seen may_leave moment left_since old mid → is_formatted (seen old) ≡ false → LeavesOnly moment left_since mid new (IsLogOf [] []) → LeavesOnly moment left_since old new (Opening old)
  format_opened old mid new first shut second =
      joined moment left_since old mid new (may_leave old) (IsLogOf [] []) (Opening old) first.any_moment second (λ c left. inl left) (λ c log. inr (inl (shut, log)))

  -- an opening goes on after reads
  pub then_opened : (old mid new : D) → OnlyReads seen may_leave moment left_since old mid → LeavesOnly moment left_since mid new (Opening mid) → LeavesOnly moment left_since old new (Opening old)
  then_opened old mid new first second =
      joined moment left_since old mid new (may_leave old) (Opening mid) (Opening old) first.any_moment second (λ c left. inl left) (λ c stop.
      ⊎_elim (λ left. inl (first.crash c left)) (λ other. inr (subst (λ (l : List ℕ). ((is_formatted l ≡ false) × IsLogOf [] [] c) ⊎ IsUpgrading l c) first.seen_same other)) stop)

  -- the second gate is opened after reads
  pub upgrade_opened : (old mid new : D) (items records : List Record) → 4096 ≤ length (seen old) → OnlyReads seen may_leave moment left_since old mid → HasLogOfFormat1 items records (seen old)
      → LeavesOnly moment left_since mid new (ChangesOnly 5 1 (seen mid)) → LeavesOnly moment left_since old new (Opening old)
  upgrade_opened old mid new items records large first was second =
      joined moment left_since old mid new (may_leave old) (ChangesOnly 5 1 (seen mid)) (Opening old) first.any_moment second (λ c left. inl left) (λ c is.
      inr (inr (while_upgrading items records (seen old) c (omega (arith, large)) was (subst (λ (l : List ℕ). ChangesOnly 5 1 l c) first.seen_same is))))

  -- what is durable stays so
  pub still_only : (mid new : D) → Only (seen mid) (may_leave mid) → OnlyReads seen may_leave moment left_since mid new → Only (seen new) (may_leave new)
  still_only mid new durable reads c left = durable c (reads.crash c left) ∙ sym reads.seen_same

  -- a log is open, with what was found on its disk
  pub found_open : (disk : D) (found : FoundArea) (size start room : ℕ) → 4096 ≤ length (seen disk) → length (seen disk) ≤ 1073741824 → IsFound found (seen disk) → Only (seen disk) (may_leave disk) → size ≡ length (seen disk) → start ≡ area_at size found.which → room ≡ area_size size
      → IsOpen seen may_leave (record { disk = disk; size = size; which = found.which; start = start; room = room; number = found.number; end = found.end }) (area_found found)
  found_open disk found size start room large small is durable sized at has_room = record {
    says = subst (λ (k : ℕ). DiskSays k found.which (area_found found) (seen disk)) (sym sized) is.says;
    start = at;
    room = has_room;
    number = refl;
    end = is.end;
    small = omega (arith, small, sized);
    large = omega (arith, large, sized);
    durable = durable;
  }

  -- a log that is open stays so where its disk is only read
  pub read_open : (log : LogVolume D) (disk : D) (area : AreaState) → OnlyReads seen may_leave moment left_since log.disk disk → IsOpen seen may_leave log area → IsOpen seen may_leave (record log { disk = disk }) area
  read_open log disk area reads is_open = record {
    says = subst (DiskSays log.size log.which area) (sym reads.seen_same) is_open.says;
    start = is_open.start;
    room = is_open.room;
    number = is_open.number;
    end = is_open.end;
    small = is_open.small;
    large = is_open.large;
    durable = still_only log.disk disk is_open.durable reads;
  }

-- the bytes of the area that is current
pub current_bytes : {D : Type 0} (seen : D → List ℕ) (may_leave : D → List ℕ → Type 0) (log : LogVolume D) (area : AreaState) → IsOpen seen may_leave log area → (bytes : List ℕ) → bytes ≡ range_at (seen log.disk) log.start log.room
    → bytes ≡ area_of log.size log.which (seen log.disk)
current_bytes seen may_leave log area is_open bytes is =
    let d = seen log.disk in
    is ∙ ap (λ (k : ℕ). range_at d k log.room) is_open.start ∙ ap (λ (k : ℕ). range_at d (area_at log.size log.which) k) is_open.room

-- what a stop leaves once a disk that has begun again was opened
pub begun_again : {D : Type 0} (seen : D → List ℕ) (may_leave : D → List ℕ → Type 0) (moment : D → ℕ) (left_since : D → ℕ → List ℕ → Type 0) (left : List ℕ → Type 0) (begun new : D)
    → left (seen begun) → Only (seen begun) (may_leave begun) → ((t : ℕ) (c : List ℕ) → t ≤ moment new → may_leave new c → left_since new t c)
    → LeavesOnly moment left_since begun new (IsOpening (seen begun) (may_leave begun)) → Follows IsReopened left (may_leave new)
begun_again seen may_leave moment left_since left begun new lawful durable counts opening c leaves =
    (seen begun, lawful, ⊎_elim (λ same. inl (durable c same)) (λ other. inr other) (opening.each c (counts (moment begun) c opening.later leaves)))
