-- A file's chunks change only by what is done on that very file.
use Rattle.std.proofs.Common.{◌≡◌, ℕ, suc, ◌<◌, ◌≤◌, true, false, cond, List, [], ◌∷◌, Some, refl, sym, ◌∙◌, ap, arith}
use Rattle.gfs_types.specs.declared.call.Call.{Call}
use Rattle.gfs_types.specs.declared.call.Call.TheVariants as call
use Rattle.relaxed_file.specs.Names.{copied_entries}
use Rattle.relaxed_file.specs.Machine.{Machine, FileState, chunk_at, put}
use Rattle.relaxed_file.specs.NameStep.{performed, is_refused, stepped, with_outcome, made_file}
use Rattle.relaxed_file.specs.Chunks.{chunk_added, placed}
use Rattle.relaxed_file.specs.Answers.{returned}
use Rattle.relaxed_file.specs.Reads.{looked}
use Rattle.relaxed_file.specs.Run.{Action, Return, Step, Expire, Add, OpenRound, CloseRound, Place, Settle, Look, Allows, after, after_all, IsLawful, asked_file}
use Rattle.relaxed_file.specs.RunLaws.{file_changed_by, NoneChanges, FilesStayApart, PlacesAreOwn, ReadsSkipNothing}
use Rattle.relaxed_file.proofs.Tables.{put_other, put_look, at_some}
use Rattle.relaxed_file.proofs.Known.{Known, known_step, asked_is}
use Rattle.relaxed_file.proofs.Grows.{grows_step, known_when_reached}
use Rattle.relaxed_file.proofs.CopiedFiles.{copies_other}
use Rattle.relaxed_file.proofs.Successes.{found_at}
use Rattle.relaxed_file.proofs.OwnReads.{selected, has_place}

module _ (m : Machine) (file : ℕ) (made : file ≤ m.file_count) where
  abbrev Same : Machine → Type 0
  Same n = (index : ℕ) → chunk_at n file index ≡ chunk_at m file index

  performed_same : (c : Call) (moment : ℕ) → Same (performed m c moment)
  performed_same (call.Create p shape) moment = λ index. ap (λ (f : FileState). f.chunks index) (put_other (suc m.file_count) (made_file m shape) m.files file (λ same. absurd (omega arith)))
  performed_same (call.Snapshot p q) moment = λ index. ap (λ (f : FileState). f.chunks index) (copies_other (copied_entries m.names p q) m.files (suc m.file_count) file (omega arith))
  performed_same other moment = λ index. refl

  other_file : (changed : ℕ) (state : FileState) → (Some changed ≡ Some file → ⊥) → (index : ℕ) → (put changed state m.files file).chunks index ≡ chunk_at m file index
  other_file changed state other index = ap (λ (f : FileState). f.chunks index) (put_other changed state m.files file (λ same. other (ap Some (sym same))))

  pub untouched : (action : Action) → Allows m action → (file_changed_by m action ≡ Some file → ⊥) → Same (after m action)
  untouched (Return client reply) a other = at_some Same (λ current. returned m client current reply) m _ a.0 a.1 (λ index. refl)
  untouched (Step client moment outcome) a other = at_some Same (λ current. stepped m client moment outcome current) m _ a.0 a.1
      (elim (is_refused outcome) as (λ b. Same (with_outcome (cond b m (performed m (a.0).asked.call moment)) client outcome)) [
        | true ↦ λ index. refl
        | false ↦ performed_same (a.0).asked.call moment
      ])
  untouched (Expire gone moment) a other = λ index. put_look (λ (f : FileState). f.chunks index ≡ chunk_at m file index) gone _ m.files file (λ same. ap (λ k. chunk_at m k index) (sym same)) refl
  untouched (Add id) a other = at_some Same (chunk_added m id) m (asked_file m id) a.1 (asked_is m id a.0 a.1 a.2.0 a.2.1)
      (other_file a.1 _ (λ same. other (asked_is m id a.0 a.1 a.2.0 a.2.1 ∙ same)))
  untouched (OpenRound changed i round) a other = other_file changed _ other
  untouched (CloseRound changed i) a other = other_file changed _ other
  untouched (Place client changed i mutation) a other = at_some Same (λ current. placed m client current changed i mutation) m _ a.0 a.1 (other_file changed _ other)
  untouched (Settle changed i place) a other = other_file changed _ other
  untouched (Look client f i least last chosen) a other = at_some Same (λ current. looked m client current f i least chosen) m _ a.0 a.1 (λ index. refl)
  untouched action a other = λ index. refl

all_untouched : (m : Machine) (actions : List Action) (file index : ℕ) → Known m → IsLawful m actions → file ≤ m.file_count → NoneChanges file m actions → chunk_at (after_all m actions) file index ≡ chunk_at m file index
all_untouched m [] file index known lawful made none = refl
all_untouched m (x ∷ xs) file index known lawful made none =
    let more : m.file_count ≤ (after m x).file_count = (grows_step m x lawful.0 known).file_count in
    all_untouched (after m x) xs file index (known_step m x lawful.0 known) lawful.1 (omega (arith, more, made)) none.1 ∙ untouched m file made x lawful.0 none.0 index

pub files_stay_apart : FilesStayApart
files_stay_apart config m actions file index reached lawful made none = all_untouched m actions file index (known_when_reached config m reached) lawful made none

pub places_are_own : PlacesAreOwn
places_are_own m client file index mutation a = (a.0, a.1, (a.2).0)

pub reads_skip_nothing : ReadsSkipNothing
reads_skip_nothing m client file index named last chosen e a there s l =
    let look = (a.2).2 in
    has_place chosen e (selected last look.3 there.0 e (found_at _ e there) s (omega (arith, l, look.2)))
