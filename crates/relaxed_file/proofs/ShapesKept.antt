-- A file that was made keeps its shape, and each shape is the settings' or fits them.
use Rattle.std.proofs.Common.{◌≡◌, ◌⊎◌, ℕ, suc, ◌≤◌, true, false, cond, List, [], ◌∷◌, ◌++◌, Option, Some, None, refl, sym, ◌∙◌, ap, subst, inl, inr, arith}
use Rattle.gfs_types.specs.declared.call.Call.{Call}
use Rattle.gfs_types.specs.declared.call.Call.TheVariants as call
use Rattle.gfs_types.specs.declared.config.Config.{Config}
use Rattle.gfs_types.specs.declared.shape.Shape.{Shape}
use Rattle.gfs_types.specs.Shapes.{usual_shape, fits, may_have, shape_or}
use Rattle.gfs_types.specs.Paths.{Path}
use Rattle.relaxed_file.specs.Names.{Node, Dir, File, copied_entries, id_after}
use Rattle.relaxed_file.specs.Machine.{Machine, FileState, new_machine, chunk_size, put}
use Rattle.relaxed_file.specs.NameStep.{performed, is_refused, stepped, with_outcome, path_tests, name_tests, refusal_of, with_copied_file, with_copied_files, made_file}
use Rattle.relaxed_file.specs.Chunks.{chunk_added, placed}
use Rattle.relaxed_file.specs.Answers.{returned}
use Rattle.relaxed_file.specs.Reads.{looked}
use Rattle.relaxed_file.specs.Run.{Action, Return, Step, Expire, Add, OpenRound, CloseRound, Place, Settle, Look, Allows, after, asked_file}
use Rattle.relaxed_file.specs.RunLaws.{HasShapeFor, ShapesStay, ShapesFit}
use Rattle.relaxed_file.proofs.Tables.{put_other, put_keeps, put_look, at_some}
use Rattle.relaxed_file.proofs.Reached.{kept_to}
use Rattle.relaxed_file.proofs.Known.{Known, known_step, asked_is}
use Rattle.relaxed_file.proofs.Grows.{grows_step, known_when_reached}
use Rattle.relaxed_file.proofs.CopiedFiles.{copies_other}
use Rattle.relaxed_file.proofs.NamesTree.{unrefused, tests_passed, true_from}

module _ (m : Machine) (file : ℕ) (made : file ≤ m.file_count) where
  -- it has this shape in that state
  abbrev HasShape : Machine → Type 0
  HasShape n = (n.files file).shape ≡ (m.files file).shape

  same_shape : (f : ℕ) (state : FileState) → state.shape ≡ (m.files f).shape → (put f state m.files file).shape ≡ (m.files file).shape
  same_shape f state same = put_look (λ (s : FileState). s.shape ≡ (m.files file).shape) f state m.files file (λ this. same ∙ ap (λ g. (m.files g).shape) (sym this)) refl

  performed_shape : (c : Call) (moment : ℕ) → HasShape (performed m c moment)
  performed_shape (call.Create p shape) moment = ap (λ (f : FileState). f.shape) (put_other (suc m.file_count) (made_file m shape) m.files file (λ same. absurd (omega arith)))
  performed_shape (call.Snapshot p q) moment = ap (λ (f : FileState). f.shape) (copies_other (copied_entries m.names p q) m.files (suc m.file_count) file (omega arith))
  performed_shape other moment = refl

  shape_step : (action : Action) → Allows m action → HasShape (after m action)
  shape_step (Return client reply) a = at_some HasShape (λ current. returned m client current reply) m _ a.0 a.1 refl
  shape_step (Step client moment outcome) a = at_some HasShape (λ current. stepped m client moment outcome current) m _ a.0 a.1
      (elim (is_refused outcome) as (λ b. HasShape (with_outcome (cond b m (performed m (a.0).asked.call moment)) client outcome)) [
        | true ↦ refl
        | false ↦ performed_shape (a.0).asked.call moment
      ])
  shape_step (Expire f moment) a = same_shape f _ refl
  shape_step (Add id) a = at_some HasShape (chunk_added m id) m (asked_file m id) a.1 (asked_is m id a.0 a.1 a.2.0 a.2.1) (same_shape a.1 _ refl)
  shape_step (OpenRound f i round) a = same_shape f _ refl
  shape_step (CloseRound f i) a = same_shape f _ refl
  shape_step (Place client f i mutation) a = at_some HasShape (λ current. placed m client current f i mutation) m _ a.0 a.1 (same_shape f _ refl)
  shape_step (Settle f i place) a = same_shape f _ refl
  shape_step (Look client f i least last chosen) a = at_some HasShape (λ current. looked m client current f i least chosen) m _ a.0 a.1 refl
  shape_step other a = refl

-- files that were made keep their sizes
abbrev pub KeepsSizes : Machine → Machine → Type 0
KeepsSizes m n = (file : ℕ) → file ≤ m.file_count → chunk_size n file ≡ chunk_size m file

pub sizes_step : (m : Machine) (action : Action) → Allows m action → KeepsSizes m (after m action)
sizes_step m action allowed file made = ap (λ (shape : Shape). shape.chunk) (shape_step m file made action allowed)

-- a file that was made has this shape
record IsShaped (file : ℕ) (shape : Shape) (m : Machine) : Type 0 where
  known : Known m
  made : file ≤ m.file_count
  is : (m.files file).shape ≡ shape

shaped_step : (file : ℕ) (shape : Shape) (m : Machine) (action : Action) → Allows m action → IsShaped file shape m → IsShaped file shape (after m action)
shaped_step file shape m action allowed h = record {
  known = known_step m action allowed h.known;
  made = (let more = (grows_step m action allowed h.known).file_count in let was = h.made in omega arith);
  is = shape_step m file h.made action allowed ∙ h.is;
}

pub shapes_stay : ShapesStay
shapes_stay config m n file reached way made =
    (kept_to (IsShaped file (m.files file).shape) (shaped_step file (m.files file).shape) m n way
    (record { known = known_when_reached config m reached; made = made; is = refl })).is

-- the shape of a file that a Create makes
asked_fits : (config : Config) (shape : Option Shape) → may_have config shape ≡ true → HasShapeFor config (shape_or (usual_shape config) shape)
asked_fits config shape h = inr h

module _ (config : Config) (m : Machine) where
  abbrev HaveShapes : (ℕ → FileState) → Type 0
  HaveShapes files = (file : ℕ) → HasShapeFor config (files file).shape

  copy_shaped : (files : ℕ → FileState) (next : ℕ) (node : Node) → HaveShapes files → HaveShapes (with_copied_file files next node)
  copy_shaped files next Dir h = h
  copy_shaped files next (File id) h = put_keeps (λ (f : FileState). HasShapeFor config f.shape) next (files id) files (h id) h

  copies_shaped : (entries : List (Path × Node)) (files : ℕ → FileState) (next : ℕ) → HaveShapes files → HaveShapes (with_copied_files files next entries)
  copies_shaped [] files next h = h
  copies_shaped (e ∷ rest) files next h = copies_shaped rest (with_copied_file files next e.1) (id_after next e.1) (copy_shaped files next e.1 h)

  changed_shaped : (f : ℕ) (state : FileState) → state.shape ≡ (m.files f).shape → HaveShapes m.files → HaveShapes (put f state m.files)
  changed_shaped f state same h = put_keeps (λ (s : FileState). HasShapeFor config s.shape) f state m.files (subst (HasShapeFor config) (sym same) (h f)) h

  performed_shaped : (c : Call) (moment : ℕ) → m.config ≡ config → refusal_of m.config m.names c ≡ None → HaveShapes m.files → HaveShapes (performed m c moment).files
  performed_shaped (call.Create p shape) moment same free h =
      let all = tests_passed (path_tests m.config (call.Create p shape) ++ name_tests m.names (call.Create p shape)) free in
      put_keeps (λ (f : FileState). HasShapeFor config f.shape) (suc m.file_count) (made_file m shape) m.files
      (subst (λ (c : Config). HasShapeFor c (shape_or (usual_shape m.config) shape)) same (asked_fits m.config shape (true_from (may_have m.config shape) all.1.0))) h
  performed_shaped (call.Snapshot p q) moment same free h = copies_shaped (copied_entries m.names p q) m.files (suc m.file_count) h
  performed_shaped other moment same free h = h

  fit_step : (action : Action) → Allows m action → m.config ≡ config → HaveShapes m.files → HaveShapes (after m action).files
  fit_step (Return client reply) a same h = at_some (λ (n : Machine). HaveShapes n.files) (λ current. returned m client current reply) m _ a.0 a.1 h
  fit_step (Step client moment outcome) a same h = at_some (λ (n : Machine). HaveShapes n.files) (λ current. stepped m client moment outcome current) m _ a.0 a.1
      (elim (is_refused outcome) as (λ b. is_refused outcome ≡ b → HaveShapes (with_outcome (cond b m (performed m (a.0).asked.call moment)) client outcome).files) [
        | true ↦ λ e. h
        | false ↦ λ e. performed_shaped (a.0).asked.call moment same (unrefused m.config m.names (a.0).asked.call outcome (a.2).2 e) h
      ] refl)
  fit_step (Expire f moment) a same h = changed_shaped f _ refl h
  fit_step (Add id) a same h = at_some (λ (n : Machine). HaveShapes n.files) (chunk_added m id) m (asked_file m id) a.1 (asked_is m id a.0 a.1 a.2.0 a.2.1) (changed_shaped a.1 _ refl h)
  fit_step (OpenRound f i round) a same h = changed_shaped f _ refl h
  fit_step (CloseRound f i) a same h = changed_shaped f _ refl h
  fit_step (Place client f i mutation) a same h = at_some (λ (n : Machine). HaveShapes n.files) (λ current. placed m client current f i mutation) m _ a.0 a.1 (changed_shaped f _ refl h)
  fit_step (Settle f i place) a same h = changed_shaped f _ refl h
  fit_step (Look client f i least last chosen) a same h = at_some (λ (n : Machine). HaveShapes n.files) (λ current. looked m client current f i least chosen) m _ a.0 a.1 h
  fit_step other a same h = h

-- each file of a machine with these settings has such a shape
record AreFit (config : Config) (m : Machine) : Type 0 where
  known : Known m
  settings : m.config ≡ config
  shapes : HaveShapes config m m.files

are_fit_step : (config : Config) (m : Machine) (action : Action) → Allows m action → AreFit config m → AreFit config (after m action)
are_fit_step config m action allowed h = record {
  known = known_step m action allowed h.known;
  settings = (grows_step m action allowed h.known).config ∙ h.settings;
  shapes = fit_step config m action allowed h.settings h.shapes;
}

pub shapes_fit : ShapesFit
shapes_fit config m way =
    (kept_to (AreFit config) (are_fit_step config) (new_machine config) m way
    (record { known = known_when_reached config (new_machine config) ([], tt, refl); settings = refl; shapes = λ file. inl refl })).shapes
