-- What is to be shown of each world that a list of events reaches, under settings in range and with kept clocks and disks: its calls and answers are those of a run of the machine, and that run led to what the world shows.
use Rattle.std.specs.Prelude.{◌≡◌, ℕ, suc, ◌*◌, ◌≤◌, ◌<◌, List, length, Some, IsTrue, IsFalse, true}
use Rattle.std.specs.FinMap as table
use Rattle.gfs_types.specs.declared.config.Config.{Config}
use Rattle.relaxed_file.specs.Machine.{Machine, chunk_at, chunk_count}
use Rattle.relaxed_file.specs.Run.{IsRunTo}
use Rattle.protocol.specs.Tables.{element_at}
use Rattle.protocol.specs.Lookups.{StoredAt, handle_at, replicas_of}
use Rattle.protocol.specs.Observer.{entries_of}
use Rattle.protocol.specs.World.{WorldState, IsReached, is_kept}
use Rattle.protocol.specs.Conforms.{IsSelected}
use Rattle.protocol.specs.Each.{EachEntry, EachPlace, EachNumber}

-- settings under which a call has an attempt, a chunk whole blocks and a replica, and a lease more than the clock bound
pub record AreSettings (c : Config) : Type 0 where
  pub attempts : 1 ≤ c.attempts
  pub chunk : 1 ≤ c.chunk
  pub block : (blocks : ℕ) × (c.chunk ≡ blocks * c.block)
  pub goal : 1 ≤ c.goal
  pub lease : c.skew_ms < c.lease_ms

-- What the world shows of names, files, chunks and their orders is the machine's. While the master is down its files are shown as they stood before its step: then the machine may have more files and chunks, which the log may have.
pub record IsShown (w : WorldState) (m : Machine) : Type 0 where
  pub names_are : IsTrue w.master.up → m.names ≡ w.master.logged.names
  -- a file that is shown has no more chunks than the machine's, and just as many while the master is up
  pub counts_are : EachEntry w.observer.files (λ file handles. (length handles ≤ chunk_count m file) × (IsTrue w.master.up → length handles ≡ chunk_count m file))
  -- while it is up each file of the machine that is not collected is shown
  pub files_are : IsTrue w.master.up → EachNumber m.file_count (λ n. IsFalse (m.files (suc n)).is_collected → table.contains_key w.observer.files (suc n) ≡ true)
  pub orders_are : EachEntry w.observer.files (λ file handles. EachPlace handles (λ index handle. entries_of w.observer handle ≡ (chunk_at m file index).order))

-- A run of the machine with this world's calls and answers, which agrees with all that the world shows.
pub record Explains (w : WorldState) (m : Machine) : Type 0 where
  pub run : IsRunTo w.config w.observer.trace m
  pub shown : IsShown w m
  pub replicas_are : (file index handle place : ℕ) (r : StoredAt) → handle_at w file index ≡ Some handle
      → element_at (replicas_of w handle) place ≡ Some r → IsSelected m file index r

-- the theorem: under such settings, and with kept clocks and disks
abbrev pub IsExplained : Config → ℕ → ℕ → WorldState → Type 0
IsExplained config servers clients w = AreSettings config → IsReached config servers clients w → IsTrue (is_kept w) → (m : Machine) × Explains w m
