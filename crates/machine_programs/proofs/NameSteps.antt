-- A snapshot's copies one after another, and a name step by its parts.
use Rattle.std.proofs.Common.{◌≡◌, ℕ, suc, ◌-◌, Bool, true, false, not, cond, List, [], ◌∷◌, Some, None, Option, refl, sym, ap, subst, ◌∙◌, arith}
use Rattle.gfs_types.specs.declared.call.Call.{Call}
use Rattle.gfs_types.specs.declared.call.Call.TheVariants as call
use Rattle.gfs_types.specs.declared.config.Config.{Config}
use Rattle.gfs_types.specs.declared.refusal.Refusal.{Refusal}
use Rattle.gfs_types.specs.declared.refusal.Refusal.TheVariants.{BadPath, BadSize, Reserved}
use Rattle.gfs_types.specs.declared.shape.Shape.{Shape}
use Rattle.gfs_types.specs.Shapes.{may_have}
use Rattle.gfs_types.specs.declared.answer.Answer.TheVariants as answer
use Rattle.gfs_types.specs.Paths.{Path, is_path}
use Rattle.relaxed_file.specs.Names.{Names, Node, Dir, File, node_at, copied_entries, with_copies, id_after_all}
use Rattle.relaxed_file.specs.Machine.{Machine, Outcome, Replies}
use Rattle.relaxed_file.specs.NameStep.{refusal_of, first_refusal, name_tests, is_in_trash, done_outcome, outcome_by, opened, is_refused, performed}
use Rattle.machine_programs.specs.NameTables.{NameTable, HasTable, Performs, IsNameStep, with_copy, with_all_copies}

all_names : (es : List (Path × Node)) (t : NameTable) → with_copies t.names (suc t.file_count) es ≡ (with_all_copies t es).names
all_names [] t = refl
all_names ((path, Dir) ∷ rest) t = all_names rest (with_copy t path Dir)
all_names ((path, File id) ∷ rest) t = all_names rest (with_copy t path (File id))

all_ids : (es : List (Path × Node)) (t : NameTable) → id_after_all (suc t.file_count) es ≡ suc (with_all_copies t es).file_count
all_ids [] t = refl
all_ids ((path, Dir) ∷ rest) t = all_ids rest (with_copy t path Dir)
all_ids ((path, File id) ∷ rest) t = all_ids rest (with_copy t path (File id))

all_settings : (es : List (Path × Node)) (t : NameTable) → t.config ≡ (with_all_copies t es).config
all_settings [] t = refl
all_settings ((path, Dir) ∷ rest) t = all_settings rest (with_copy t path Dir)
all_settings ((path, File id) ∷ rest) t = all_settings rest (with_copy t path (File id))

pub snapshot_performs : (old new : NameTable) (p q : Path) (moment : ℕ) → new ≡ with_all_copies old (copied_entries old.names p q) → Performs old (call.Snapshot p q) moment new
snapshot_performs old new p q moment is m has = (
  has.0 ∙ all_settings (copied_entries old.names p q) old ∙ ap (λ (t : NameTable). t.config) (sym is),
  ap (λ names. with_copies names (suc m.file_count) (copied_entries names p q)) has.1
      ∙ ap (λ n. with_copies old.names (suc n) (copied_entries old.names p q)) has.2
      ∙ all_names (copied_entries old.names p q) old ∙ ap (λ (t : NameTable). t.names) (sym is),
  ap (λ names. id_after_all (suc m.file_count) (copied_entries names p q) - 1) has.1
      ∙ ap (λ n. id_after_all (suc n) (copied_entries old.names p q) - 1) has.2
      ∙ (let ids : id_after_all (suc old.file_count) (copied_entries old.names p q) ≡ suc (with_all_copies old (copied_entries old.names p q)).file_count = all_ids (copied_entries old.names p q) old in
      let last : id_after_all (suc old.file_count) (copied_entries old.names p q) - 1 ≡ (with_all_copies old (copied_entries old.names p q)).file_count = omega (arith, ids) in last)
      ∙ ap (λ (t : NameTable). t.file_count) (sym is),
)

-- whether or not it is a refusal
either : (m n : Machine) (t : NameTable) (b : Bool) → HasTable m t → HasTable n t → HasTable (cond b m n) t
either m n t true h g = h
either m n t false h g = g

performed_or_not : (old new : NameTable) (c : Call) (moment : ℕ) → Performs old c moment new → (m : Machine) → HasTable m old
    → HasTable (cond (is_refused (done_outcome old.names c)) m (performed m c moment)) new
performed_or_not old new (call.Open p) moment h m has = either m m new (is_refused (opened (node_at old.names p))) (h m has) (h m has)
performed_or_not old new (call.List p) moment h m has = h m has
performed_or_not old new other moment h m has = h m has

pub done_step : (old new : NameTable) (c : Call) (moment : ℕ) (o : Outcome) → refusal_of old.config old.names c ≡ None → o ≡ done_outcome old.names c → Performs old c moment new → IsNameStep old c moment o new
done_step old new c moment o none is h =
    subst (λ r. (o ≡ outcome_by old.names c r) × ((m : Machine) → HasTable m old → HasTable (cond (is_refused o) m (performed m c moment)) new)) (sym none)
    (is, λ m has. subst (λ x. HasTable (cond (is_refused x) m (performed m c moment)) new) (sym is) (performed_or_not old new c moment h m has))

pub refused_step : (t : NameTable) (c : Call) (moment : ℕ) (refusal : Refusal) → refusal_of t.config t.names c ≡ Some refusal → IsNameStep t c moment (Replies (answer.Refused refusal)) t
refused_step t c moment refusal is = (ap (outcome_by t.names c) (sym is), λ m has. has)

-- a refusal that no settings change, of the call whose path was looked at
pub refused_as : (r : Option Refusal) (inside now : NameTable) (c : Call) (of : Path → Call) (looked named : Path)
    → ((config : Config) → r ≡ refusal_of config inside.names (of looked)) → looked ≡ named → c ≡ of named → inside ≡ now → r ≡ refusal_of now.config now.names c
refused_as r inside now c of looked named is same called view =
    is inside.config ∙ ap (λ p. refusal_of inside.config inside.names (of p)) same ∙ ap (refusal_of inside.config inside.names) (sym called)
    ∙ ap (λ (t : NameTable). refusal_of t.config t.names c) view

pub refused_as_both : (r : Option Refusal) (inside now : NameTable) (c : Call) (of : Path → Path → Call) (looked named to named_to : Path)
    → ((config : Config) → r ≡ refusal_of config inside.names (of looked to)) → looked ≡ named → to ≡ named_to → c ≡ of named named_to → inside ≡ now
    → r ≡ refusal_of now.config now.names c
refused_as_both r inside now c of looked named to named_to is same same_to called view =
    refused_as r inside now c (of named) to named_to (λ config. is config ∙ ap (λ p. refusal_of config inside.names (of p to)) same) same_to called view

-- a Create whose shape may be had is refused as a Mkdir
pub refused_as_mkdir : (config : Config) (names : Names) (path : Path) (shape : Option Shape) → true ≡ may_have config shape
    → refusal_of config names (call.Mkdir path) ≡ refusal_of config names (call.Create path shape)
refused_as_mkdir config names path shape may = ap (λ b. first_refusal ((not (is_path path), BadPath) ∷ (not b, BadSize) ∷ (is_in_trash path, Reserved) ∷ name_tests names (call.Create path shape))) may
