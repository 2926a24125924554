-- A master whose log's disk stops, and that is opened over it again.
use Rattle.std.proofs.Common.{◌≡◌, ◌≤◌, ℕ, Bool, true, false, cond, List, [], ◌∷◌, length, refl, sym, ap, ◌∙◌, subst, Option, Some, None, arith}
use Rattle.std.specs.Prelude.{◌&&◌, nat_le, IfSome, option_map}
use Rattle.std.proofs.lemmas.Bool.Decides.{nat_tests}
use Rattle.gfs_types.specs.declared.config.Config.{Config}
use Rattle.gfs_types.specs.declared.ids.FileId.{FileId}
use Rattle.gfs_types.specs.Paths.{Path}
use Rattle.messages.specs.declared.event.StepOut.{StepOut}
use Rattle.disk.specs.Device.{Only}
use Rattle.disk.specs.Failing.{FuseState}
use Rattle.disk.specs.Laws.{left_now}
use Rattle.disk.specs.Writes.{LeftBy, LeftSince, moment_of}
use Rattle.disk_redo.specs.GateMoments.{LeavesOnly}
use Rattle.oplog.specs.Disks.{HasLog}
use Rattle.oplog.specs.NewLogs.{IsLogOf}
use Rattle.oplog.specs.Opening.{IsOpening}
use Rattle.operation_log.specs.Logs.{IsDecided}
use Rattle.stored_log.specs.Kept.{DiskLogState, IsDiskSize, LeavesDecided}
use Rattle.stored_log.proofs.Reopening.{log_again, still_decided}
use Rattle.protocol.specs.Conforms.{MasterRestarts}
use Rattle.protocol.specs.Logged.{LogDisk, LogChange}
use Rattle.protocol.specs.Master.{MasterState, stopped_master}
use Rattle.protocol.specs.Seen.{down_output, no_output}
use Rattle.protocol.specs.Sending.{file_id}
use Rattle.protocol.specs.Tables.{Table}
use Rattle.protocol.specs.World.{files_seen}
use Rattle.cell_world.specs.FileNames.{file_in}
use Rattle.master_cell.specs.Opens.{OpensNot, OpensUp, down_over}
use Rattle.master_cell.specs.Standing.{LoggedMasterState}
use Rattle.master_cell.proofs.Again.{KeepsSettings, down_again, opened_settings, up_again}
use Rattle.master_cell.proofs.Restarts.{not_begun, not_made}
use Rattle.memory_nodes.specs.MasterSlots.{IsDiskLeft, IsLetGo, IsMasterOf, slot_state}

abbrev stopped : MasterState → MasterState
stopped m = stopped_master m m.disk m.under_way

-- the master that is held is the slot's
pub held_is : (config : Config) (count : ℕ) (o : Option LoggedMasterState) (m : LoggedMasterState) (log : Option DiskLogState) (before : List DiskLogState) → o ≡ Some m → slot_state config count o log before ≡ m.state
held_is config count o m log before is = ap (λ (x : Option LoggedMasterState). slot_state config count x log before) is

-- one that isn't held is down
none_up : (config : Config) (count : ℕ) (log : Option DiskLogState) (before : List DiskLogState) → (slot_state config count None log before).up ≡ false
none_up config count (Some l) before = refl
none_up config count None [] = refl
none_up config count None (l ∷ rest) = refl

pub not_held : (config : Config) (count : ℕ) (o : Option LoggedMasterState) (log : Option DiskLogState) (before : List DiskLogState) → o ≡ None → (slot_state config count o log before).up ≡ false
not_held config count o log before is = ap (λ (x : Option LoggedMasterState). (slot_state config count x log before).up) is ∙ none_up config count log before

pub up_held : {P : Type 0} (config : Config) (count : ℕ) (o : Option LoggedMasterState) (log : Option DiskLogState) (before : List DiskLogState) (m : MasterState) → o ≡ None → slot_state config count o log before ≡ m → m.up ≡ true → P
up_held config count o log before m is view up =
    let both : false ≡ true = sym (not_held config count o log before is) ∙ (ap (λ (x : MasterState). x.up) view ∙ up) in absurd cc

-- and names no file
pub names_none : (m : MasterState) (path : Path) → m.up ≡ false → ◌≡◌ {A = Option FileId} None (option_map file_id (file_in m path))
names_none m path down = sym (ap (λ (b : Bool). option_map file_id (cond b (file_in (record m { up = true }) path) None)) down)

-- A master that is let go.

down_is : (config : Config) (count : ℕ) (m : MasterState) (disk : LogDisk) (under_way : List LogChange) → IsMasterOf config count m → disk ≡ m.disk → under_way ≡ m.under_way → down_over config count disk under_way ≡ stopped m
down_is config count m disk under_way of is under_way_is =
    ap (λ (d : LogDisk). down_over config count d under_way) is
    ∙ (ap (λ (u : List LogChange). down_over config count m.disk u) under_way_is
    ∙ (ap (λ (c : Config). down_over c count m.disk m.under_way) (sym of.config_is) ∙ ap (λ (n : ℕ). down_over m.config n m.disk m.under_way) (sym of.count_is)))

none_down : (config : Config) (count : ℕ) (log : Option DiskLogState) (before : List DiskLogState) → slot_state config count None log before ≡ stopped (slot_state config count None log before)
none_down config count (Some l) before = refl
none_down config count None [] = refl
none_down config count None (l ∷ rest) = refl

module _ (config : Config) (count : ℕ) (before now : List DiskLogState) (l : DiskLogState) (items : now ≡ l ∷ []) where
  after : slot_state config count None None now ≡ down_over config count l.disk l.under_way
  after = ap (slot_state config count None None) items

  of_log : (held : Option DiskLogState) → held ≡ Some l → slot_state config count None None now ≡ stopped (slot_state config count None held before)
  of_log held is = after ∙ sym (ap (λ (x : Option DiskLogState). stopped (slot_state config count None x before)) is)

  -- its log was taken
  pub log_taken : (o : Option LoggedMasterState) (held log : Option DiskLogState) → IsMasterOf config count (slot_state config count o held before) → IsLetGo o held log → log ≡ Some l
      → slot_state config count None None now ≡ stopped (slot_state config count o held before)
  log_taken (Some m) held log of (x, found, disk, under_way) is =
      let same : x ≡ l = (let both = sym found ∙ is in cc) in
      after ∙ down_is config count m.state l.disk l.under_way of (ap (λ (y : DiskLogState). y.disk) (sym same) ∙ disk) (ap (λ (y : DiskLogState). y.under_way) (sym same) ∙ under_way)
  log_taken None held log of go is = of_log held (sym go ∙ is)

  -- and so a stop leaves of its disk what it had
  pub disk_taken : (f : FuseState) (o : Option LoggedMasterState) (held log : Option DiskLogState) → IsLetGo o held log → log ≡ Some l → LeavesDecided (λ (d : FuseState). LeftBy d.disk) f l.disk l.under_way
      → (let m = slot_state config count o held before in LeavesDecided (λ (d : FuseState). LeftBy d.disk) f m.disk m.under_way)
  disk_taken f (Some m) held log (x, found, disk, under_way) is leaves =
      let same : x ≡ l = (let both = sym found ∙ is in cc) in
      subst (λ (d : LogDisk). LeavesDecided (λ (e : FuseState). LeftBy e.disk) f d m.state.under_way) (ap (λ (y : DiskLogState). y.disk) (sym same) ∙ disk)
      (subst (λ (u : List LogChange). LeavesDecided (λ (e : FuseState). LeftBy e.disk) f l.disk u) (ap (λ (y : DiskLogState). y.under_way) (sym same) ∙ under_way) leaves)
  disk_taken f None held log go is leaves =
      subst (λ (x : Option DiskLogState). (let m = slot_state config count None x before in LeavesDecided (λ (d : FuseState). LeftBy d.disk) f m.disk m.under_way)) (sym (sym go ∙ is)) leaves

-- no log was there
pub none_taken : (config : Config) (count : ℕ) (before : List DiskLogState) (o : Option LoggedMasterState) (held log : Option DiskLogState) → IsLetGo o held log → log ≡ None
    → (slot_state config count None None before ≡ stopped (slot_state config count o held before)) × (slot_state config count o held before ≡ slot_state config count None None before)
none_taken config count before (Some m) held log (x, found, disk, under_way) is = absurd cc
none_taken config count before None held log go is =
    let none : held ≡ None = sym go ∙ is in (
      none_down config count None before ∙ sym (ap (λ (x : Option DiskLogState). stopped (slot_state config count None x before)) none),
      ap (λ (x : Option DiskLogState). slot_state config count None x before) none,
    )

-- the disk of one that isn't held, nor its log
pub disk_held : (config : Config) (count : ℕ) (before : List DiskLogState) (o : Option LoggedMasterState) (held log : Option DiskLogState) (disk : Option FuseState) → IsLetGo o held log → log ≡ None → IsDiskLeft config count o held before disk
    → (let m = slot_state config count o held before in IfSome disk (λ f. LeavesDecided (λ (d : FuseState). LeftBy d.disk) f m.disk m.under_way))
disk_held config count before (Some m) held log disk (x, found, d, u) is left = absurd cc
disk_held config count before None (Some l) log disk go is left = absurd cc
disk_held config count before None None log None go is left = tt
disk_held config count before None None log (Some f) go is left = left

-- or of one that can't be opened
pub disk_kept : (config : Config) (count : ℕ) (before : List DiskLogState) (o : Option LoggedMasterState) (log : Option DiskLogState) (f : FuseState) (m : MasterState) → slot_state config count o log before ≡ m
    → LeavesDecided (λ (d : FuseState). LeftBy d.disk) f m.disk m.under_way → IsDiskLeft config count o log before (Some f)
disk_kept config count before (Some x) log f m view left = tt
disk_kept config count before None (Some l) f m view left = tt
disk_kept config count before None None f m view left = subst (λ (x : MasterState). LeavesDecided (λ (d : FuseState). LeftBy d.disk) f x.disk x.under_way) (sym view) left

-- Settings.

pub stopped_of : (config : Config) (count : ℕ) (m n : MasterState) → n ≡ stopped m → IsMasterOf config count m → IsMasterOf config count n
stopped_of config count m n is h = subst (IsMasterOf config count) (sym is) (record { config_is = h.config_is; count_is = h.count_is })

pub of_stopped : (config : Config) (count : ℕ) (m n : MasterState) → n ≡ stopped m → IsMasterOf config count n → IsMasterOf config count m
of_stopped config count m n is h = (let k = subst (IsMasterOf config count) is h in record { config_is = k.config_is; count_is = k.count_is })

pub still_of : (config : Config) (count : ℕ) (m n : MasterState) → IsMasterOf config count m → KeepsSettings m n → IsMasterOf config count n
still_of config count m n h k = record { config_is = k.0 ∙ h.config_is; count_is = k.1 ∙ h.count_is }

-- Sizes.

both_are : (a b : Bool) → (a && b) ≡ true → (a ≡ true) × (b ≡ true)
both_are true b h = (refl, h)
both_are false b h = absurd cc

pub is_disk_size : (b : Bool) (size : ℕ) → b ≡ (nat_le 4096 size && nat_le size 1073741824) → b ≡ true → IsDiskSize size
is_disk_size b size is h = (let both = both_are (nat_le 4096 size) (nat_le size 1073741824) (sym is ∙ h) in (least size both.0, most size both.1))
  where
    least : (n : ℕ) → nat_le 4096 n ≡ true → 4096 ≤ n
    least n e = grind (arith, nat_tests)

    most : (n : ℕ) → nat_le n 1073741824 ≡ true → n ≤ 1073741824
    most n e = grind (arith, nat_tests)

-- The files of one that is down stay.
pub files_stay : (m : MasterState) (files : Table (List ℕ)) → m.up ≡ false → files ≡ files_seen m files
files_stay m files down = sym (ap (λ (b : Bool). cond b m.logged.table.files files) down)

-- Beginning again.

-- it could not be opened
pub not_again : (m new : MasterState) (moment : ℕ) (out : StepOut) → out ≡ down_output → new ≡ stopped m → MasterRestarts m moment out new
not_again m new moment out o is = subst (λ (x : StepOut). MasterRestarts m moment x new) (sym o) (not_begun m new moment is)

-- a stop leaves of a disk that has begun again what it left
pub begun_left : (f g : FuseState) (log : LogDisk) (under_way : List LogChange) → LeavesDecided (λ (d : FuseState). LeftBy d.disk) f log under_way → LeftBy f.disk g.disk.bytes → Only g.disk.bytes (LeftBy g.disk)
    → LeavesDecided (λ (d : FuseState). LeftBy d.disk) g log under_way
begun_left f g log under_way leaves is only c left =
    let kept = leaves g.disk.bytes is in
    (kept.0, kept.1, subst (λ (b : List ℕ). HasLog kept.0.items kept.0.records b) (sym (only c left)) kept.2)

-- also of one over which no log could be opened
pub unopened_left : (f g new : FuseState) (log : LogDisk) (under_way : List LogChange) → LeavesDecided (λ (d : FuseState). LeftBy d.disk) f log under_way → LeftBy f.disk g.disk.bytes → Only g.disk.bytes (LeftBy g.disk)
    → LeavesOnly (λ (x : FuseState). moment_of x.disk) (λ (x : FuseState) (t : ℕ) (b : List ℕ). LeftSince x.disk t b) g new (IsOpening g.disk.bytes (LeftBy g.disk)) → LeavesDecided (λ (d : FuseState). LeftBy d.disk) new log under_way
unopened_left f g new log under_way leaves is only run =
    still_decided (λ (x : FuseState). x.disk.bytes) (λ (x : FuseState). LeftBy x.disk) (λ (x : FuseState). moment_of x.disk) (λ (x : FuseState) (t : ℕ) (b : List ℕ). LeftSince x.disk t b) log under_way f g new leaves is only run
    (λ x t c le now. left_now x.disk t c le now)

-- the log that was opened is one that the master may have left
pub opened_decided : (f : FuseState) (bytes : List ℕ) (m : MasterState) (found : DiskLogState) → 4096 ≤ length bytes → LeavesDecided (λ (d : FuseState). LeftBy d.disk) f m.disk m.under_way → LeftBy f.disk bytes
    → IsLogOf found.disk.items found.disk.records bytes → IsDecided m.disk m.under_way found.disk
opened_decided f bytes m found large leaves is there =
    log_again (λ (x : FuseState). x.disk.bytes) (λ (x : FuseState). LeftBy x.disk) (λ (x : FuseState). moment_of x.disk) (λ (x : FuseState) (t : ℕ) (b : List ℕ). LeftSince x.disk t b) m.disk m.under_way f bytes found.disk large leaves is there

module _ (config : Config) (count : ℕ) (m : MasterState) (of : IsMasterOf config count m) (moment : ℕ) (log : DiskLogState) (decided : IsDecided m.disk m.under_way log.disk) (none : log.under_way ≡ []) where
  -- the master is up over it
  pub is_up_again : (out : StepOut) (new : MasterState) → out ≡ no_output → OpensUp (down_over config count log.disk []) moment new → MasterRestarts m moment out new
  is_up_again out new o up = up_again m config count log.disk moment of.config_is of.count_is decided out new o up

  -- or it is down over what its opening left
  pub is_down_again : (out : StepOut) (left : DiskLogState) → out ≡ down_output → OpensNot (down_over config count log.disk []) moment left.disk left.under_way → MasterRestarts m moment out (down_over config count left.disk left.under_way)
  is_down_again out left o n = down_again m config count log.disk moment of.config_is of.count_is decided out (down_over config count left.disk left.under_way) left.disk left.under_way o refl n

  -- or the opening was not begun
  pub is_left_again : (out : StepOut) → out ≡ down_output → MasterRestarts m moment out (down_over config count log.disk log.under_way)
  is_left_again out o =
      down_again m config count log.disk moment of.config_is of.count_is decided out (down_over config count log.disk log.under_way) log.disk [] o
      (ap (λ (u : List LogChange). down_over config count log.disk u) none) (not_made config count log.disk log.disk [] moment refl refl)

-- one that is up has its settings, and its files are shown
pub up_of : (config : Config) (count moment : ℕ) (log : LogDisk) (new : MasterState) → OpensUp (down_over config count log []) moment new → IsMasterOf config count new
up_of config count moment log new up =
    let kept = opened_settings config count log moment up.opens.went up.opens.made up.out new up.opens.gives in
    record { config_is = kept.0; count_is = kept.1 }

pub up_files : (m : MasterState) (files before : Table (List ℕ)) → m.up ≡ true → files ≡ m.logged.table.files → files ≡ files_seen m before
up_files m files before up is = is ∙ sym (ap (λ (b : Bool). cond b m.logged.table.files before) up)
