-- A file is collected only once it stood long enough under its hidden name.
use Rattle.std.proofs.Common.{◌≡◌, ℕ, suc, ◌+◌, ◌≤◌, true, false, cond, Some, refl, sym, ◌∙◌, ap, subst, arith}
use Rattle.std.specs.Prelude.{IsTrue, IsFalse}
use Rattle.std.proofs.lemmas.Bool.{true≢false}
use Rattle.gfs_types.specs.declared.call.Call.{Call}
use Rattle.gfs_types.specs.declared.call.Call.TheVariants as call
use Rattle.gfs_types.specs.Paths.{hidden_name}
use Rattle.relaxed_file.specs.Names.{File, node_at, copied_entries}
use Rattle.relaxed_file.specs.Machine.{Machine, FileState, put}
use Rattle.relaxed_file.specs.NameStep.{performed, is_refused, stepped, with_outcome, made_file}
use Rattle.relaxed_file.specs.Chunks.{chunk_added, placed}
use Rattle.relaxed_file.specs.Answers.{returned}
use Rattle.relaxed_file.specs.Reads.{looked}
use Rattle.relaxed_file.specs.Run.{Action, Return, Step, Expire, Add, OpenRound, CloseRound, Place, Settle, Look, Allows, after, asked_file}
use Rattle.relaxed_file.specs.RunLaws.{CollectedFilesWereKept}
use Rattle.relaxed_file.proofs.Tables.{put_other, put_look, at_some}
use Rattle.relaxed_file.proofs.Known.{asked_is}
use Rattle.relaxed_file.proofs.CopiedFiles.{copies_other}

module _ (m : Machine) (file : ℕ) (made : file ≤ m.file_count) (before : IsFalse (m.files file).is_collected) where
  -- the file isn't collected in this state either, or it was kept long enough
  abbrev WasKept : Machine → Type 0
  WasKept n = IsTrue (n.files file).is_collected → (moment : ℕ) × (node_at m.names (hidden_name moment file) ≡ Some (File file)) × (moment + m.config.keep_ms ≤ m.clock)

  same_flag : (n : Machine) → (n.files file).is_collected ≡ (m.files file).is_collected → WasKept n
  same_flag n same now = absurd (true≢false (sym now ∙ same ∙ before))

  flag_kept : (f : ℕ) (state : FileState) → state.is_collected ≡ (m.files f).is_collected → (put f state m.files file).is_collected ≡ (m.files file).is_collected
  flag_kept f state same = put_look (λ (s : FileState). s.is_collected ≡ (m.files file).is_collected) f state m.files file
      (λ this. same ∙ ap (λ g. (m.files g).is_collected) (sym this)) refl

  performed_flag : (c : Call) (moment : ℕ) → ((performed m c moment).files file).is_collected ≡ (m.files file).is_collected
  performed_flag (call.Create p shape) moment = ap (λ (f : FileState). f.is_collected) (put_other (suc m.file_count) (made_file m shape) m.files file (λ same. absurd (omega arith)))
  performed_flag (call.Snapshot p q) moment = ap (λ (f : FileState). f.is_collected) (copies_other (copied_entries m.names p q) m.files (suc m.file_count) file (omega arith))
  performed_flag other moment = refl

  kept_step : (action : Action) → Allows m action → WasKept (after m action)
  kept_step (Return client reply) a = at_some WasKept (λ current. returned m client current reply) m _ a.0 a.1 (same_flag (returned m client a.0 reply) refl)
  kept_step (Step client moment outcome) a = at_some WasKept (λ current. stepped m client moment outcome current) m _ a.0 a.1
      (elim (is_refused outcome) as (λ b. WasKept (with_outcome (cond b m (performed m (a.0).asked.call moment)) client outcome)) [
        | true ↦ same_flag m refl
        | false ↦ same_flag (performed m (a.0).asked.call moment) (performed_flag (a.0).asked.call moment)
      ])
  kept_step (Expire f moment) a = put_look (λ (s : FileState). IsTrue s.is_collected → (t : ℕ) × (node_at m.names (hidden_name t file) ≡ Some (File file)) × (t + m.config.keep_ms ≤ m.clock)) f _ m.files file
      (λ this now. (moment, subst (λ g. node_at m.names (hidden_name moment g) ≡ Some (File g)) (sym this) a.0, a.1))
      (same_flag m refl)
  kept_step (Add id) a = at_some WasKept (chunk_added m id) m (asked_file m id) a.1 (asked_is m id a.0 a.1 a.2.0 a.2.1) (same_flag (chunk_added m id a.1) (flag_kept a.1 _ refl))
  kept_step (OpenRound f i round) a = same_flag (after m (OpenRound f i round)) (flag_kept f _ refl)
  kept_step (CloseRound f i) a = same_flag (after m (CloseRound f i)) (flag_kept f _ refl)
  kept_step (Place client f i mutation) a = at_some WasKept (λ current. placed m client current f i mutation) m _ a.0 a.1 (same_flag (placed m client a.0 f i mutation) (flag_kept f _ refl))
  kept_step (Settle f i place) a = same_flag (after m (Settle f i place)) (flag_kept f _ refl)
  kept_step (Look client f i least last chosen) a = at_some WasKept (λ current. looked m client current f i least chosen) m _ a.0 a.1 (same_flag (looked m client a.0 f i least chosen) refl)
  kept_step other a = same_flag (after m other) refl

pub collected_files_were_kept : CollectedFilesWereKept
collected_files_were_kept m action file allowed made before now = kept_step m file made before action allowed now
