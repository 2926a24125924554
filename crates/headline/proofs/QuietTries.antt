-- No action but Place adds a try of a call: a chunk stays as it was, is new, or is a copy of another file's.
use Rattle.std.proofs.Common.{◌≡◌, ℕ, suc, ◌≤◌, true, false, cond, List, [], ◌∷◌, refl, sym, ap, arith}
use Rattle.std.specs.Prelude.{count_by}
use Rattle.std.specs.List.{list_all}
use Rattle.std.proofs.lemmas.Bool.{and_parts, true≢false}
use Rattle.gfs_types.specs.declared.call.Call.{Call}
use Rattle.gfs_types.specs.declared.call.Call.TheVariants as call
use Rattle.gfs_types.specs.Paths.{Path}
use Rattle.relaxed_file.specs.Names.{Node, Dir, File, copied_entries, id_after}
use Rattle.relaxed_file.specs.Order.{CallId, Entry}
use Rattle.relaxed_file.specs.Machine.{Machine, FileState, Chunk, new_chunk, chunk_at, chunk_count, with_chunk}
use Rattle.relaxed_file.specs.NameStep.{made_file, performed, is_refused, stepped, with_outcome, with_copied_file, with_copied_files}
use Rattle.relaxed_file.specs.Chunks.{tries_in, chunk_added}
use Rattle.relaxed_file.specs.Answers.{returned}
use Rattle.relaxed_file.specs.Reads.{looked}
use Rattle.relaxed_file.specs.Run.{Action, Return, Step, Expire, Add, OpenRound, CloseRound, Place, Settle, Look, Allows, after, asked_file}
use Rattle.relaxed_file.proofs.Tables.{put_keeps, put_at, at_some}
use Rattle.relaxed_file.proofs.Known.{asked_is}
use Rattle.relaxed_file.proofs.Tries.{is_try}
use Rattle.laws_machine.proofs.TriesRise.{settled_tries}
use Rattle.laws_machine.specs.Tries.{places_nothing}
use Rattle.headline.specs.NumberedTries.{QuietActionsAddNoTries}

module _ (m : Machine) where
  -- it has no more tries than a chunk of this index
  abbrev P : ℕ → Chunk → Type 0
  P index chunk = (from : ℕ) × ((id : CallId) → tries_in id chunk ≤ tries_in id (chunk_at m from index))

  abbrev HoldsOfFile : FileState → Type 0
  HoldsOfFile file = (index : ℕ) → P index (file.chunks index)

  abbrev Holds : Machine → Type 0
  Holds n = (file : ℕ) → HoldsOfFile (n.files file)

  new_has : (index : ℕ) → P index new_chunk
  new_has index = (0, λ id. omega arith)

  same_has : (file index : ℕ) (chunk : Chunk) → chunk.order ≡ (chunk_at m file index).order → P index chunk
  same_has file index chunk same = (file, λ id. let e = ap (λ (order : List Entry). count_by (is_try id) order) same in omega (arith, e))

  abbrev first : Holds m
  first file index = (file, λ id. omega arith)

  chunk_keeps : (file index : ℕ) (chunk : Chunk) → P index chunk → Holds (with_chunk m file index chunk)
  chunk_keeps file index chunk new = put_keeps HoldsOfFile file _ m.files (put_at P index chunk (m.files file).chunks new (first file)) first

  copy_keeps : (files : ℕ → FileState) (next : ℕ) (node : Node) → ((k : ℕ) → HoldsOfFile (files k)) → (k : ℕ) → HoldsOfFile (with_copied_file files next node k)
  copy_keeps files next Dir h = h
  copy_keeps files next (File id) h = put_keeps HoldsOfFile next (files id) files (h id) h

  copies_keep : (entries : List (Path × Node)) (files : ℕ → FileState) (next : ℕ) → ((k : ℕ) → HoldsOfFile (files k)) → (k : ℕ) → HoldsOfFile (with_copied_files files next entries k)
  copies_keep [] files next h = h
  copies_keep (e ∷ rest) files next h = copies_keep rest (with_copied_file files next e.1) (id_after next e.1) (copy_keeps files next e.1 h)

  performed_keeps : (c : Call) (moment : ℕ) → Holds (performed m c moment)
  performed_keeps (call.Create p shape) moment = put_keeps HoldsOfFile (suc m.file_count) (made_file m shape) m.files new_has first
  performed_keeps (call.Snapshot p q) moment = copies_keep (copied_entries m.names p q) m.files (suc m.file_count) first
  performed_keeps other moment = first

  step_keeps : (action : Action) → Allows m action → places_nothing action ≡ true → Holds (after m action)
  step_keeps (Return client reply) a quiet = at_some Holds (λ current. returned m client current reply) m _ a.0 a.1 first
  step_keeps (Step client moment outcome) a quiet = at_some Holds (λ current. stepped m client moment outcome current) m _ a.0 a.1
      (elim (is_refused outcome) as (λ b. Holds (with_outcome (cond b m (performed m (a.0).asked.call moment)) client outcome)) [
        | true ↦ first
        | false ↦ performed_keeps (a.0).asked.call moment
      ])
  step_keeps (Expire file moment) a quiet = put_keeps HoldsOfFile file _ m.files (first file) first
  step_keeps (Add id) a quiet = at_some Holds (chunk_added m id) m (asked_file m id) a.1 (asked_is m id a.0 a.1 a.2.0 a.2.1)
      (put_keeps HoldsOfFile a.1 _ m.files (put_at P (chunk_count m a.1) new_chunk (m.files a.1).chunks (new_has (chunk_count m a.1)) (first a.1)) first)
  step_keeps (OpenRound file index round) a quiet = chunk_keeps file index _ (same_has file index (record (chunk_at m file index) { round = round; is_open = true }) refl)
  step_keeps (CloseRound file index) a quiet = chunk_keeps file index _ (same_has file index (record (chunk_at m file index) { is_open = false }) refl)
  step_keeps (Place client file index mutation) a quiet = absurd (true≢false (sym quiet))
  step_keeps (Settle file index place) a quiet = chunk_keeps file index _ (file, λ id. let e = settled_tries id place (chunk_at m file index).order in omega (arith, e))
  step_keeps (Look client file index least last chosen) a quiet = at_some Holds (λ current. looked m client current file index least chosen) m _ a.0 a.1 first
  step_keeps other a quiet = first

pub quiet_actions_add_no_tries : QuietActionsAddNoTries
quiet_actions_add_no_tries m [] lawful quiet = λ file index. (file, λ id. omega arith)
quiet_actions_add_no_tries m (a ∷ rest) lawful quiet = λ file index.
    let both = and_parts (places_nothing a) (list_all places_nothing rest) quiet in
    let later = quiet_actions_add_no_tries (after m a) rest lawful.1 both.1 file index in
    let now = step_keeps m a lawful.0 both.0 later.0 index in
    (now.0, λ id. let one = later.1 id in let two = now.1 id in omega (arith, one, two))
