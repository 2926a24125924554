-- What users rely on, of each world that a run of the machine explains.
use Rattle.std.specs.Prelude.{◌≡◌, ℕ, ◌+◌, ◌*◌, ◌≤◌, List, length, slice_get, Some, IsSomeAnd, IsTrue}
use Rattle.std.specs.FinMap as table
use Rattle.gfs_types.specs.declared.call.Call.TheVariants as call
use Rattle.gfs_types.specs.declared.answer.Answer.TheVariants as answer
use Rattle.gfs_types.specs.declared.ids.Fd.{Fd}
use Rattle.gfs_types.specs.declared.config.Config.{Config}
use Rattle.gfs_types.specs.declared.mutation.Mutation.TheVariants.{Append}
use Rattle.relaxed_file.specs.Machine.{Machine, chunk_size}
use Rattle.protocol.specs.Tables.{element_at}
use Rattle.protocol.specs.Observer.{entries_of}
use Rattle.protocol.specs.World.{WorldState, IsReached, is_kept}
use Rattle.protocol.specs.Explained.{AreSettings, Explains, IsExplained}
use Rattle.promises.specs.Answered.{WasAnswered, IsOf}
use Rattle.promises.specs.Promises.{Promises}

-- Whichever run explains a world, it keeps all promises.
abbrev pub RunsOfWorldsKeepPromises : Type 0
RunsOfWorldsKeepPromises = (w : WorldState) (m : Machine) (e : Explains w m) → Promises w.config w.observer.trace m (e.run)

-- There is a run with this world's calls and answers, which agrees with all that the world shows and keeps all promises.
abbrev pub KeepsPromises : WorldState → Type 0
KeepsPromises w = (m : Machine) × (e : Explains w m) × Promises w.config w.observer.trace m (e.run)

-- the same under the conditions of the theorem that each world is explained
abbrev pub IsPromised : Config → ℕ → ℕ → WorldState → Type 0
IsPromised config servers clients w = AreSettings config → IsReached config servers clients w → IsTrue (is_kept w) → KeepsPromises w

-- So what the theorem explains is promised.
abbrev pub ExplainedWorldsArePromised : Type 0
ExplainedWorldsArePromised = (config : Config) (servers clients : ℕ) (w : WorldState) → IsExplained config servers clients w → IsPromised config servers clients w

-- The world shows the record in one of these chunks, which are of this size: settled, at one place of the chunk's order.
pub record IsShownAt (size : ℕ) (w : WorldState) (handles : List ℕ) (x : ℕ) (bytes : List ℕ) : Type 0 where
  pub index : ℕ
  pub offset : ℕ
  pub is : x ≡ index * size + offset
  pub room : offset + length bytes ≤ size
  pub handle : ℕ
  pub there : element_at handles index ≡ Some handle
  pub place : ℕ
  pub stands : IsSomeAnd (slice_get (entries_of w.observer handle) place) (λ e. IsTrue e.settled × (e.mutation ≡ Append offset bytes))

-- While the master is up and shows the file, an answered record stands in the order that the world shows of its chunk (section 3.3).
abbrev pub AnsweredRecordsAreShown : Type 0
AnsweredRecordsAreShown =
    (w : WorldState) (m : Machine) (e : Explains w m) (client : ℕ) (fd : Fd) (bytes : List ℕ) (x : ℕ)
    → WasAnswered w.observer.trace client (call.Append fd bytes) (answer.At x) → IsTrue w.master.up
    → (file : ℕ) × IsOf (e.run).0 client fd file × ((handles : List ℕ) → table.get w.observer.files file ≡ Some handles → IsShownAt (chunk_size m file) w handles x bytes)
