-- A log as its callers see it, over its volume.
use Rattle.std.proofs.Common.{◌≡◌, ℕ, ◌+◌, ◌<◌, ◌≤◌, ◌^◌, Bool, true, false, List, [], ◌∷◌, ◌++◌, length, drop, length-append, length-drop, length-take, refl, sym, ap, subst, ◌∙◌, arith}
use Rattle.std.specs.Prelude.{◌&&◌}
use Rattle.std.proofs.lemmas.Bool.{false≢true}
use Rattle.disk.specs.Bytes.{range_at}
use Rattle.disk.specs.Device.{NoMore}
use Rattle.log_records.specs.declared.record.Record.{Record}
use Rattle.oplog.specs.Areas.{AreaSays, AreaState, end_of}
use Rattle.oplog.specs.Changes.{appended}
use Rattle.oplog.specs.Disks.{area_of, DiskSays}
use Rattle.oplog.specs.Faults.{leaves_open}
use Rattle.oplog.specs.Layout.{area_at, area_size, record_fits}
use Rattle.oplog.specs.Logs.{area_counted, log_counted, IsCounted, IsDurable, IsOpen, LogState}
use Rattle.oplog.specs.Writing.{area_with}
use Rattle.oplog.specs.declared.fault.LogFault.{LogFault}
use Rattle.oplog.specs.declared.fault.LogFault.TheVariants.{Full, Damaged, Device, NoMemory}
use Rattle.oplog.specs.declared.volume.LogVolume.{LogVolume}
use Rattle.oplog.proofs.DiskAreas.{front_len, front_of, parts_of}
use Rattle.oplog.proofs.Disks.{has_log}
use Rattle.oplog.proofs.Items.{open_many}
use Rattle.oplog.proofs.Whole.{state_of}

-- what is seen of a log is so of its volume
pub was_open : {D : Type 0} (inside log : LogState D) → inside ≡ log → log.is_open ≡ true → inside.is_open ≡ true
was_open {D = D} inside log is opened = subst (λ (s : LogState D). s.is_open ≡ true) (sym is) opened

-- an open log takes what its volume has room for
pub fits_open : {D : Type 0} (inside log : LogState D) (r : Record) (fits : Bool) → inside ≡ log → inside.is_open ≡ true → fits ≡ record_fits (area_size inside.size) inside.area r
    → fits ≡ (log.is_open && record_fits (area_size log.size) log.area r)
fits_open {D = D} inside log r fits is opened has_room =
    subst (λ (s : LogState D). fits ≡ (s.is_open && record_fits (area_size s.size) s.area r)) is
    (has_room ∙ sym (ap (λ (b : Bool). b && record_fits (area_size inside.size) inside.area r) opened))

-- an area ends behind its records
end_within : (area : AreaState) (bytes : List ℕ) → AreaSays area bytes → end_of area < length bytes
end_within area bytes says =
    omega (arith, ap length (parts_of area bytes says), length-append (front_of area) (says.records.gate ∷ says.records.rest), front_len area)

range_within : (d : List ℕ) (at n : ℕ) → length (range_at d at n) ≤ length d
range_within d at n = omega (arith, length-take n (drop at d), length-drop at d)

module _ {D : Type 0} (seen : D → List ℕ) (may_leave : D → List ℕ → Type 0) where
  -- the records of an open volume end within its disk
  ends_inside : (volume : LogVolume D) (area : AreaState) → IsOpen seen may_leave volume area → volume.end < volume.size
  ends_inside volume area is =
      let d = seen volume.disk in
      let within = end_within area (area_of volume.size volume.which d) is.says.says in
      let all : length (area_of volume.size volume.which d) ≤ volume.size = omega (arith, range_within d (area_at volume.size volume.which) (area_size volume.size), is.says.sized) in
      omega (arith, within, all, is.end)

  pub few_records : (volume : LogVolume D) (area : AreaState) → IsOpen seen may_leave volume area → length area.records < 2 ^ 63
  few_records volume area is = omega (arith, open_many area.records, is.end, ends_inside volume area is, is.small)

  -- its number is the area's
  pub renumbered : (volume : LogVolume D) (number : ℕ) (items records : List Record) → IsOpen seen may_leave volume (state_of number items records) → IsOpen seen may_leave volume (area_counted volume items records)
  renumbered volume number items records is = subst (λ (n : ℕ). IsOpen seen may_leave volume (state_of n items records)) (sym is.number) is

  pub durable_of : (volume : LogVolume D) (area : AreaState) (is_open : Bool) → IsOpen seen may_leave volume area
      → IsDurable seen may_leave (record { disk = volume.disk; size = volume.size; is_open = is_open; area = area })
  durable_of volume area is_open is = record { says = has_log volume.size volume.which area (seen volume.disk) is.says; size = is.says.sized; only = is.durable }

  -- an open volume is an open log
  pub counted_open : (volume : LogVolume D) (number : ℕ) (items records : List Record) (is_open : Bool) → IsOpen seen may_leave volume (state_of number items records) → IsCounted seen may_leave volume items records is_open
  counted_open volume number items records is_open is = record {
    large = is.large;
    small = is.small;
    end = is.end;
    within = ends_inside volume (state_of number items records) is;
    opened = λ _. renumbered volume number items records is;
  }

  counted_closed : (volume : LogVolume D) (items records : List Record) (is_open : Bool) → 4096 ≤ volume.size → volume.size ≤ 1073741824 → volume.end ≡ end_of (area_counted volume items records) → volume.end < volume.size → is_open ≡ false
      → IsCounted seen may_leave volume items records is_open
  counted_closed volume items records is_open large small end within closed = record { large = large; small = small; end = end; within = within; opened = λ opened. absurd (false≢true (sym closed ∙ opened)) }

  -- what a fault leaves
  pub counted_after : (volume : LogVolume D) (number : ℕ) (items records : List Record) (fault : LogFault) (is_open : Bool) → 4096 ≤ volume.size → volume.size ≤ 1073741824
      → volume.end ≡ end_of (area_counted volume items records) → volume.end < volume.size → is_open ≡ leaves_open fault
      → (fault ≡ Full → IsOpen seen may_leave volume (state_of number items records)) → (fault ≡ NoMemory → IsOpen seen may_leave volume (state_of number items records)) → (fault ≡ Damaged → ⊥)
      → IsCounted seen may_leave volume items records is_open
  counted_after volume number items records Full is_open large small end within is full memory undamaged = counted_open volume number items records is_open (full refl)
  counted_after volume number items records Damaged is_open large small end within is full memory undamaged = absurd (undamaged refl)
  counted_after volume number items records Device is_open large small end within is full memory undamaged = counted_closed volume items records is_open large small end within is
  counted_after volume number items records NoMemory is_open large small end within is full memory undamaged = counted_open volume number items records is_open (memory refl)

  -- the disk says the same, and a stop leaves no more
  still_open : (volume : LogVolume D) (disk : D) (area : AreaState) → seen disk ≡ seen volume.disk → NoMore (may_leave volume.disk) (may_leave disk)
      → IsOpen seen may_leave volume area → IsOpen seen may_leave (record volume { disk = disk }) area
  still_open volume disk area same more is = record {
    says = subst (DiskSays volume.size volume.which area) (sym same) is.says;
    start = is.start;
    room = is.room;
    number = is.number;
    end = is.end;
    small = is.small;
    large = is.large;
    durable = λ c left. is.durable c (more c left) ∙ sym same;
  }

  pub still_counted : (volume : LogVolume D) (disk : D) (items records : List Record) (is_open : Bool) → seen disk ≡ seen volume.disk → NoMore (may_leave volume.disk) (may_leave disk)
      → IsCounted seen may_leave volume items records is_open → IsCounted seen may_leave (record volume { disk = disk }) items records is_open
  still_counted volume disk items records is_open same more is = record {
    large = is.large;
    small = is.small;
    end = is.end;
    within = is.within;
    opened = λ opened. still_open volume disk (area_counted volume items records) same more (is.opened opened);
  }

  -- a log that was closed stays so, whatever its disk does
  pub closed_counted : (volume : LogVolume D) (disk : D) (items records : List Record) (is_open : Bool) → IsCounted seen may_leave volume items records is_open → IsCounted seen may_leave (record volume { disk = disk }) items records false
  closed_counted volume disk items records is_open is = counted_closed (record volume { disk = disk }) items records false is.large is.small is.end is.within refl

-- one record more, or a checkpoint
pub more_records : (number after : ℕ) (items records more : List Record) (r : Record) → after ≡ number → more ≡ records ++ r ∷ [] → state_of after items more ≡ appended (state_of number items records) r
more_records number after items records more r same is = ap (λ (n : ℕ). state_of n items more) same ∙ ap (λ (l : List Record). state_of number items l) is

pub new_items : (number after : ℕ) (items records written : List Record) → after ≡ number + 1 → items ≡ written → records ≡ [] → state_of after items records ≡ area_with (number + 1) written
new_items number after items records written next is none =
    ap (λ (n : ℕ). state_of n items records) next ∙ ap (λ (l : List Record). state_of (number + 1) l records) is ∙ ap (λ (l : List Record). state_of (number + 1) written l) none

-- a change that was refused for want of room
pub same_log : {D : Type 0} (volume new : LogVolume D) (items records : List Record) (before now : Bool) → new ≡ volume → before ≡ true → now ≡ true → log_counted new items records now ≡ log_counted volume items records before
same_log {D = D} volume new items records before now same was is =
    ap (λ (v : LogVolume D). log_counted v items records now) same ∙ ap (λ (b : Bool). log_counted volume items records b) (is ∙ sym was)
