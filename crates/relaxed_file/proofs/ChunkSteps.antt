-- What holds of a new chunk of each size and is kept by each step of a chunk is kept by each action of the machine, and so holds of every chunk in every run.
use Rattle.std.proofs.Common.{◌≡◌, ℕ, suc, ◌<◌, true, false, cond, List, [], ◌∷◌, refl, ◌∙◌}
use Rattle.std.specs.Prelude.{IsSomeAnd, slice_get}
use Rattle.gfs_types.specs.declared.call.Call.{Call}
use Rattle.gfs_types.specs.declared.call.Call.TheVariants as call
use Rattle.gfs_types.specs.declared.mutation.Mutation.{Mutation}
use Rattle.gfs_types.specs.declared.config.Config.{Config}
use Rattle.gfs_types.specs.Paths.{Path}
use Rattle.relaxed_file.specs.Names.{Node, Dir, File, copied_entries, id_after}
use Rattle.relaxed_file.specs.Machine.{Machine, FileState, Chunk, new_chunk, OpenCall, IsOpen, new_machine, chunk_size, chunk_at, chunk_count, with_chunk}
use Rattle.relaxed_file.specs.NameStep.{performed, is_refused, stepped, with_outcome, with_copied_file, with_copied_files, made_file}
use Rattle.relaxed_file.specs.Chunks.{MayPlace, settled_at, chunk_added, placed, with_entry}
use Rattle.relaxed_file.specs.Answers.{returned}
use Rattle.relaxed_file.specs.Reads.{looked}
use Rattle.relaxed_file.specs.Run.{Action, Return, Step, Expire, Add, OpenRound, CloseRound, Place, Settle, Look, Allows, after, asked_file, IsReached}
use Rattle.relaxed_file.proofs.Tables.{put_keeps, put_at, at_some}
use Rattle.relaxed_file.proofs.Known.{Known, known_step, asked_is}
use Rattle.relaxed_file.proofs.Grows.{grows_step, known_at_first}
use Rattle.relaxed_file.proofs.Reached.{kept_to}

-- P is said of a chunk by its file's size and its index
module _ (m : Machine) (P : (size index : ℕ) → Chunk → Type 0)
    (new_has : (size index : ℕ) → P size index new_chunk)
    (opening : (size index : ℕ) (chunk : Chunk) (round : ℕ) → chunk.round < round → P size index chunk → P size index (record chunk { round = round; is_open = true }))
    (closing : (size index : ℕ) (chunk : Chunk) → P size index chunk → P size index (record chunk { is_open = false }))
    (placing : (client : ℕ) (current : OpenCall) (file index : ℕ) (mutation : Mutation) → IsOpen m client current → MayPlace m client current file index mutation
    → P (chunk_size m file) index (chunk_at m file index) → P (chunk_size m file) index (with_entry (chunk_at m file index) (record { client = client; number = current.number }) mutation))
    (settling : (size index : ℕ) (chunk : Chunk) (place : ℕ) → IsSomeAnd (slice_get chunk.order place) (λ e. e.round ≡ chunk.round) → P size index chunk
    → P size index (record chunk { order = settled_at place chunk.order })) where
  abbrev HoldsOfFile : FileState → Type 0
  HoldsOfFile file = (index : ℕ) → P file.shape.chunk index (file.chunks index)

  abbrev Holds : Machine → Type 0
  Holds n = (file : ℕ) → HoldsOfFile (n.files file)

  chunk_keeps : (file index : ℕ) (chunk : Chunk) → P (chunk_size m file) index chunk → Holds m → Holds (with_chunk m file index chunk)
  chunk_keeps file index chunk new h = put_keeps HoldsOfFile file _ m.files (put_at (P (chunk_size m file)) index chunk (m.files file).chunks new (h file)) h

  copy_keeps : (files : ℕ → FileState) (next : ℕ) (node : Node) → ((k : ℕ) → HoldsOfFile (files k)) → (k : ℕ) → HoldsOfFile (with_copied_file files next node k)
  copy_keeps files next Dir h = h
  copy_keeps files next (File id) h = put_keeps HoldsOfFile next (files id) files (h id) h

  copies_keep : (entries : List (Path × Node)) (files : ℕ → FileState) (next : ℕ) → ((k : ℕ) → HoldsOfFile (files k)) → (k : ℕ) → HoldsOfFile (with_copied_files files next entries k)
  copies_keep [] files next h = h
  copies_keep (e ∷ rest) files next h = copies_keep rest (with_copied_file files next e.1) (id_after next e.1) (copy_keeps files next e.1 h)

  performed_keeps : (c : Call) (moment : ℕ) → Holds m → Holds (performed m c moment)
  performed_keeps (call.Create p shape) moment h = put_keeps HoldsOfFile (suc m.file_count) (made_file m shape) m.files (new_has (made_file m shape).shape.chunk) h
  performed_keeps (call.Snapshot p q) moment h = copies_keep (copied_entries m.names p q) m.files (suc m.file_count) h
  performed_keeps other moment h = h

  pub chunk_step : (action : Action) → Allows m action → Holds m → Holds (after m action)
  chunk_step (Return client reply) a h = at_some Holds (λ current. returned m client current reply) m _ a.0 a.1 h
  chunk_step (Step client moment outcome) a h = at_some Holds (λ current. stepped m client moment outcome current) m _ a.0 a.1
      (elim (is_refused outcome) as (λ b. Holds (with_outcome (cond b m (performed m (a.0).asked.call moment)) client outcome)) [
        | true ↦ h
        | false ↦ performed_keeps (a.0).asked.call moment h
      ])
  chunk_step (Expire file moment) a h = put_keeps HoldsOfFile file _ m.files (h file) h
  chunk_step (Add id) a h = at_some Holds (chunk_added m id) m (asked_file m id) a.1 (asked_is m id a.0 a.1 a.2.0 a.2.1)
      (put_keeps HoldsOfFile a.1 _ m.files (put_at (P (chunk_size m a.1)) (chunk_count m a.1) new_chunk (m.files a.1).chunks (new_has (chunk_size m a.1) (chunk_count m a.1)) (h a.1)) h)
  chunk_step (OpenRound file index round) a h = chunk_keeps file index _ (opening (chunk_size m file) index _ round a.2 (h file index)) h
  chunk_step (CloseRound file index) a h = chunk_keeps file index _ (closing (chunk_size m file) index _ (h file index)) h
  chunk_step (Place client file index mutation) a h = at_some Holds (λ current. placed m client current file index mutation) m _ a.0 a.1
      (chunk_keeps file index _ (placing client a.0 file index mutation a.1 a.2 (h file index)) h)
  chunk_step (Settle file index place) a h = chunk_keeps file index _ (settling (chunk_size m file) index _ place a.1 (h file index)) h
  chunk_step (Look client file index least last chosen) a h = at_some Holds (λ current. looked m client current file index least chosen) m _ a.0 a.1 h
  chunk_step other a h = h

-- the settings stay, and each chunk has the property
record Holding (config : Config) (P : (size index : ℕ) → Chunk → Type 0) (m : Machine) : Type 0 where
  known : Known m
  same_config : m.config ≡ config
  each : (file index : ℕ) → P (chunk_size m file) index (chunk_at m file index)

pub every_chunk : (config : Config) (P : (size index : ℕ) → Chunk → Type 0)
    → ((size index : ℕ) → P size index new_chunk)
    → ((size index : ℕ) (chunk : Chunk) (round : ℕ) → chunk.round < round → P size index chunk → P size index (record chunk { round = round; is_open = true }))
    → ((size index : ℕ) (chunk : Chunk) → P size index chunk → P size index (record chunk { is_open = false }))
    → ((m : Machine) (client : ℕ) (current : OpenCall) (file index : ℕ) (mutation : Mutation) → m.config ≡ config → MayPlace m client current file index mutation
    → P (chunk_size m file) index (chunk_at m file index) → P (chunk_size m file) index (with_entry (chunk_at m file index) (record { client = client; number = current.number }) mutation))
    → ((size index : ℕ) (chunk : Chunk) (place : ℕ) → IsSomeAnd (slice_get chunk.order place) (λ e. e.round ≡ chunk.round) → P size index chunk
    → P size index (record chunk { order = settled_at place chunk.order }))
    → (m : Machine) → IsReached config m → (file index : ℕ) → P (chunk_size m file) index (chunk_at m file index)
every_chunk config P new_has opening closing placing settling m way =
    (kept_to (Holding config P)
    (λ k action allowed h. record {
      known = known_step k action allowed h.known;
      same_config = (grows_step k action allowed h.known).config ∙ h.same_config;
      each = chunk_step k P new_has opening closing (λ client current file index mutation is may holds. placing k client current file index mutation h.same_config may holds) settling action allowed h.each;
    })
    (new_machine config) m way (record { known = known_at_first config; same_config = refl; each = λ file index. new_has (chunk_size (new_machine config) file) index })).each
