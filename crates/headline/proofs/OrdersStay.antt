-- As the machine follows the master it leaves the orders of the chunks that there are: it adds files and chunks, and opens and closes rounds.
use Rattle.std.proofs.Common.{◌≡◌, ℕ, suc, ◌<◌, ◌≤◌, true, false, cond, List, [], ◌∷◌, refl, sym, ap, subst, ◌∙◌, arith}
use Rattle.std.specs.List.{list_all}
use Rattle.std.proofs.lemmas.Bool.{and_parts}
use Rattle.gfs_types.specs.declared.shape.Shape.{Shape}
use Rattle.gfs_types.specs.declared.call.Call.{Call}
use Rattle.gfs_types.specs.declared.call.Call.TheVariants as call
use Rattle.gfs_types.specs.Paths.{Path}
use Rattle.relaxed_file.specs.Names.{Node, Dir, File, copied_entries, id_after}
use Rattle.relaxed_file.specs.Machine.{Machine, FileState, Chunk, new_chunk, new_file, chunk_at, chunk_count, with_chunk}
use Rattle.relaxed_file.specs.NameStep.{made_file, performed, is_refused, stepped, with_outcome, with_copied_file, with_copied_files}
use Rattle.relaxed_file.specs.Chunks.{chunk_added}
use Rattle.relaxed_file.specs.Run.{Action, Step, FindBusy, FindFull, Lock, Expire, Add, OpenRound, CloseRound, IsLawful, Allows, after, after_all, asked_file}
use Rattle.relaxed_file.proofs.Tables.{put_at, put_other, at_some}
use Rattle.relaxed_file.proofs.Known.{Known, known_step, asked_is, copied_file_fresh}
use Rattle.laws_machine.specs.MasterSteps.{is_of_master}

-- each chunk that there was is there, with its order
abbrev FileStays : FileState → FileState → Type 0
FileStays old new = (index : ℕ) → index < old.chunk_count → (index < new.chunk_count) × ((new.chunks index).order ≡ (old.chunks index).order)

abbrev pub FilesStay : (ℕ → FileState) → (ℕ → FileState) → Type 0
FilesStay old new = (file : ℕ) → FileStays (old file) (new file)

same_file : (f : FileState) → FileStays f f
same_file f index low = (low, refl)

file_on : (a b c : FileState) → FileStays a b → FileStays b c → FileStays a c
file_on a b c h g index low =
    let one = h index low in
    let two = g index one.0 in
    (two.0, two.1 ∙ one.1)

new_stays : {shape : Shape} (old new : FileState) → old ≡ new_file shape → FileStays old new
new_stays old new is = subst (λ (f : FileState). FileStays f new) (sym is) (λ index low. absurd (omega (arith, low)))

copied_file_stays : {shape : Shape} (files : ℕ → FileState) (next : ℕ) (node : Node) → ((k : ℕ) → next ≤ k → files k ≡ new_file shape) → FilesStay files (with_copied_file files next node)
copied_file_stays files next Dir fresh k = same_file (files k)
copied_file_stays files next (File id) fresh k = put_at (λ j f. FileStays (files j) f) next (files id) files (new_stays (files next) (files id) (fresh next (omega arith))) (λ j. same_file (files j)) k

copied_files_stay : {shape : Shape} (entries : List (Path × Node)) (files : ℕ → FileState) (next : ℕ) → ((k : ℕ) → next ≤ k → files k ≡ new_file shape) → FilesStay files (with_copied_files files next entries)
copied_files_stay [] files next fresh k = same_file (files k)
copied_files_stay (e ∷ rest) files next fresh k =
    file_on (files k) (with_copied_file files next e.1 k) (with_copied_files (with_copied_file files next e.1) (id_after next e.1) rest k) (copied_file_stays files next e.1 fresh k)
    (copied_files_stay rest (with_copied_file files next e.1) (id_after next e.1) (copied_file_fresh files next e.1 fresh) k)

module _ (m : Machine) (h : Known m) where
  abbrev Stay : Machine → Type 0
  Stay n = FilesStay m.files n.files

  same : Stay m
  same file = same_file (m.files file)

  chunk_stays : (file index : ℕ) (chunk : Chunk) → chunk.order ≡ (chunk_at m file index).order → Stay (with_chunk m file index chunk)
  chunk_stays file index chunk is = put_at (λ k f. FileStays (m.files k) f) file _ m.files
      (λ i low. (low, put_at (λ j c. c.order ≡ ((m.files file).chunks j).order) index chunk (m.files file).chunks is (λ j. refl) i)) same

  performed_stays : (c : Call) (moment : ℕ) → Stay (performed m c moment)
  performed_stays (call.Create p shape) moment = put_at (λ k f. FileStays (m.files k) f) (suc m.file_count) (made_file m shape) m.files (new_stays (m.files (suc m.file_count)) (made_file m shape) (h.fresh (suc m.file_count) (omega arith))) same
  performed_stays (call.Snapshot p q) moment = copied_files_stay (copied_entries m.names p q) m.files (suc m.file_count) (λ k l. h.fresh k (omega (arith, l)))
  performed_stays other moment = same

  step_stays : (a : Action) → Allows m a → is_of_master a ≡ true → Stay (after m a)
  step_stays (Step client moment outcome) a of = at_some Stay (λ current. stepped m client moment outcome current) m _ a.0 a.1
      (elim (is_refused outcome) as (λ b. Stay (with_outcome (cond b m (performed m (a.0).asked.call moment)) client outcome)) [
        | true ↦ same
        | false ↦ performed_stays (a.0).asked.call moment
      ])
  step_stays (FindBusy client holder) a of = same
  step_stays (FindFull client) a of = same
  step_stays (Lock client) a of = same
  step_stays (Expire file moment) a of = put_at (λ k f. FileStays (m.files k) f) file _ m.files (same_file (m.files file)) same
  step_stays (Add id) a of = at_some Stay (chunk_added m id) m (asked_file m id) a.1 (asked_is m id a.0 a.1 a.2.0 a.2.1)
      (put_at (λ k f. FileStays (m.files k) f) a.1 _ m.files
      (λ index low. (omega (arith, low), ap (λ (c : Chunk). c.order) (put_other (chunk_count m a.1) new_chunk (m.files a.1).chunks index (λ is. absurd (omega (arith, low, is)))))) same)
  step_stays (OpenRound file index round) a of = chunk_stays file index _ refl
  step_stays (CloseRound file index) a of = chunk_stays file index _ refl
  step_stays other a of = absurd (let no : false ≡ true = of in cc)

pub orders_stay : (m : Machine) (actions : List Action) → Known m → IsLawful m actions → list_all is_of_master actions ≡ true → FilesStay m.files (after_all m actions).files
orders_stay m [] h lawful of file = same_file (m.files file)
orders_stay m (a ∷ rest) h lawful of file =
    let first = and_parts (is_of_master a) (list_all is_of_master rest) of in
    file_on (m.files file) ((after m a).files file) ((after_all m (a ∷ rest)).files file) (step_stays m h a lawful.0 first.0 file) (orders_stay (after m a) rest (known_step m a lawful.0 h) lawful.1 first.1 file)
