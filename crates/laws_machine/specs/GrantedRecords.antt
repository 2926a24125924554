-- What a step of the master grants was attempted before it; a copy that it grants was under way before it, of a chunk of which nothing is granted in the step (sections 3.1 and 3.4).
use Rattle.std.specs.Prelude.{◌≡◌, ◌⊎◌, ℕ, ◌≤◌, Bool, List, [], ◌∷◌, Some, IsTrue}
use Rattle.std.specs.FinMap as table
use Rattle.gfs_types.specs.declared.config.Config.{Config}
use Rattle.messages.specs.declared.event.NodeInput.{NodeInput}
use Rattle.log_records.specs.declared.record.Record.{Record}
use Rattle.log_records.specs.declared.record.Record.TheVariants as log
use Rattle.chunk_table.specs.ChunkTable.{ChunkRow, chunk_of}
use Rattle.protocol.specs.Logged.{Logged, Copy, LogDisk, LogChange, AppendRecord, WriteCheckpoint, log_changed}
use Rattle.protocol.specs.Master.{MasterState, VersionAttempt}
use Rattle.protocol.specs.MasterStep.{master_goes}
use Rattle.protocol.specs.World.{WorldState, IsReached}
use Rattle.laws_base.specs.Laws.{grants_of}
use Rattle.laws_names.specs.NameTrails.{log_read}

-- The master attempts this version of the chunk, which it has.
pub record IsAttempted (m : MasterState) (handle version : ℕ) : Type 0 where
  pub attempt : VersionAttempt
  pub at : table.get m.attempts handle ≡ Some attempt
  pub same : attempt.version ≡ version
  pub row : ChunkRow
  pub row_is : chunk_of m.logged.table handle ≡ Some row

-- As the version is granted, a copy of this handle in the log is one of the master, and of its source no more was granted.
pub record IsGrantOfAttempt (m : MasterState) (l : Logged) (handle version : ℕ) : Type 0 where
  pub attempted : IsAttempted m handle version
  pub copies : (c : Copy) → table.get l.copies handle ≡ Some c → table.get m.logged.copies handle ≡ Some c
  pub sources : (c : Copy) → table.get l.copies handle ≡ Some c → (before : ChunkRow) → chunk_of l.table c.source ≡ Some before
      → (old : ChunkRow) × (chunk_of m.logged.table c.source ≡ Some old) × (old.granted ≡ before.granted)

abbrev pub IsGrantedFrom : MasterState → Logged → Record → Type 0
IsGrantedFrom m l (log.Grant handle version primary members) = IsGrantOfAttempt m l handle.0 version.0
IsGrantedFrom m l other = Unit {0}

abbrev pub AreGrantedFrom : MasterState → LogDisk → List LogChange → Type 0
AreGrantedFrom m d [] = Unit {0}
AreGrantedFrom m d (AppendRecord r ∷ rest) = IsGrantedFrom m (log_read d) r × AreGrantedFrom m (log_changed d (AppendRecord r)) rest
AreGrantedFrom m d (WriteCheckpoint items ∷ rest) = AreGrantedFrom m (log_changed d (WriteCheckpoint items)) rest

-- Where clocks are kept, each Grant of a step is of a chunk and version that the master attempted before it.
abbrev pub StepsGrantWhatWasAttempted : Type 0
StepsGrantWhatWasAttempted =
    (config : Config) (servers clients : ℕ) (w : WorldState) → IsReached config servers clients w → IsTrue w.observer.are_clocks_kept → IsTrue w.master.up
    → (moment : ℕ) (i : NodeInput) (refused : List Bool) → AreGrantedFrom w.master w.master.disk (master_goes w.master moment i refused).changes

-- the change is a Grant of this chunk and version
abbrev pub IsGrantOf : LogChange → ℕ → ℕ → Type 0
IsGrantOf (AppendRecord (log.Grant h v primary members)) handle version = (h.0 ≡ handle) × (v.0 ≡ version)
IsGrantOf other handle version = ⊥

abbrev pub HasGrantRecord : List LogChange → ℕ → ℕ → Type 0
HasGrantRecord [] handle version = ⊥
HasGrantRecord (x ∷ rest) handle version = IsGrantOf x handle version ⊎ HasGrantRecord rest handle version

-- Each Grant that a step sends has its record in the log (section 3.1).
abbrev pub SentGrantsAreLogged : Type 0
SentGrantsAreLogged =
    (config : Config) (servers clients : ℕ) (w : WorldState) → IsReached config servers clients w → IsTrue w.master.up
    → (moment : ℕ) (i : NodeInput) (refused : List Bool) (handle version : ℕ)
    → 1 ≤ grants_of handle version (master_goes w.master moment i refused).sent → HasGrantRecord (master_goes w.master moment i refused).changes handle version
