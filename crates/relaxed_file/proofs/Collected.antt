-- Once a file is collected, no client is told of its chunks, and it gets no more of them.
use Rattle.std.proofs.Common.{◌≡◌, ℕ, suc, ◌≤◌, ⊎_elim, true, false, cond, refl, sym, ◌∙◌, ap, subst, arith}
use Rattle.std.specs.Prelude.{IsTrue}
use Rattle.std.proofs.lemmas.Bool.{true≢false, false≢true, cases_lt}
use Rattle.gfs_types.specs.declared.call.Call.{Call}
use Rattle.gfs_types.specs.declared.call.Call.TheVariants as call
use Rattle.relaxed_file.specs.Names.{copied_entries}
use Rattle.relaxed_file.specs.Machine.{Machine, FileState, chunk_count, put}
use Rattle.relaxed_file.specs.NameStep.{performed, is_refused, stepped, with_outcome, made_file}
use Rattle.relaxed_file.specs.Chunks.{chunk_added, placed}
use Rattle.relaxed_file.specs.Answers.{returned}
use Rattle.relaxed_file.specs.Reads.{looked}
use Rattle.relaxed_file.specs.Run.{Action, Return, Step, Expire, Add, OpenRound, CloseRound, Place, Settle, Look, Allows, after, asked_file}
use Rattle.relaxed_file.specs.RunLaws.{CollectedFilesAreClosed}
use Rattle.relaxed_file.proofs.Tables.{put_other, put_look, at_some}
use Rattle.relaxed_file.proofs.Reached.{kept_to}
use Rattle.relaxed_file.proofs.Known.{Known, known_step, asked_is}
use Rattle.relaxed_file.proofs.Grows.{grows_step, known_when_reached}
use Rattle.relaxed_file.proofs.CopiedFiles.{copies_other}

-- a file that is collected was made
made_by_collection : (m : Machine) (file : ℕ) → Known m → IsTrue (m.files file).is_collected → file ≤ m.file_count
made_by_collection m file known collected = ⊎_elim
    (λ late. absurd (false≢true (sym (ap (λ (f : FileState). f.is_collected) (known.fresh file late)) ∙ collected)))
    (λ made. made) (cases_lt m.file_count file)

module _ (m : Machine) (file : ℕ) (made : file ≤ m.file_count) (collected : IsTrue (m.files file).is_collected) where
  -- it has as many chunks in this state
  abbrev HasAsMany : Machine → Type 0
  HasAsMany n = chunk_count n file ≡ chunk_count m file

  as_many : (f : ℕ) (state : FileState) → state.chunk_count ≡ chunk_count m f → (put f state m.files file).chunk_count ≡ chunk_count m file
  as_many f state same = put_look (λ (s : FileState). s.chunk_count ≡ chunk_count m file) f state m.files file (λ this. same ∙ ap (λ g. chunk_count m g) (sym this)) refl

  performed_as_many : (c : Call) (moment : ℕ) → HasAsMany (performed m c moment)
  performed_as_many (call.Create p shape) moment = ap (λ (f : FileState). f.chunk_count) (put_other (suc m.file_count) (made_file m shape) m.files file (λ same. absurd (omega arith)))
  performed_as_many (call.Snapshot p q) moment = ap (λ (f : FileState). f.chunk_count) (copies_other (copied_entries m.names p q) m.files (suc m.file_count) file (omega arith))
  performed_as_many other moment = refl

  count_step : (action : Action) → Allows m action → HasAsMany (after m action)
  count_step (Return client reply) a = at_some HasAsMany (λ current. returned m client current reply) m _ a.0 a.1 refl
  count_step (Step client moment outcome) a = at_some HasAsMany (λ current. stepped m client moment outcome current) m _ a.0 a.1
      (elim (is_refused outcome) as (λ b. HasAsMany (with_outcome (cond b m (performed m (a.0).asked.call moment)) client outcome)) [
        | true ↦ refl
        | false ↦ performed_as_many (a.0).asked.call moment
      ])
  count_step (Expire f moment) a = as_many f _ refl
  count_step (Add id) a = at_some HasAsMany (chunk_added m id) m (asked_file m id) a.1 (asked_is m id a.0 a.1 a.2.0 a.2.1)
      (put_look (λ (s : FileState). s.chunk_count ≡ chunk_count m file) a.1 _ m.files file
      (λ this. absurd (true≢false (sym (subst (λ g. IsTrue (m.files g).is_collected) this collected) ∙ a.2.2)))
      refl)
  count_step (OpenRound f i round) a = as_many f _ refl
  count_step (CloseRound f i) a = as_many f _ refl
  count_step (Place client f i mutation) a = at_some HasAsMany (λ current. placed m client current f i mutation) m _ a.0 a.1 (as_many f _ refl)
  count_step (Settle f i place) a = as_many f _ refl
  count_step (Look client f i least last chosen) a = at_some HasAsMany (λ current. looked m client current f i least chosen) m _ a.0 a.1 refl
  count_step other a = refl

-- it is collected, and has so many chunks
record IsClosed (file count : ℕ) (m : Machine) : Type 0 where
  known : Known m
  collected : IsTrue (m.files file).is_collected
  has : chunk_count m file ≡ count

closed_step : (file count : ℕ) (m : Machine) (action : Action) → Allows m action → IsClosed file count m → IsClosed file count (after m action)
closed_step file count m action allowed h = record {
  known = known_step m action allowed h.known;
  collected = ((grows_step m action allowed h.known).files file).collected h.collected;
  has = count_step m file (made_by_collection m file h.known h.collected) h.collected action allowed ∙ h.has;
}

pub collected_files_are_closed : CollectedFilesAreClosed
collected_files_are_closed config m n file reached way collected =
    let h : IsClosed file (chunk_count m file) n = kept_to (IsClosed file (chunk_count m file)) (closed_step file (chunk_count m file)) m n way
    (record { known = known_when_reached config m reached; collected = collected; has = refl }) in
    (h.has, λ client index tells. true≢false (sym h.collected ∙ (tells.2).1))
