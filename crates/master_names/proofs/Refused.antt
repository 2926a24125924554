-- Whether a conflict is told doesn't matter where a call's texts are no paths: that is refused before.
use Rattle.std.proofs.Common.{◌≡◌, Bool, true, false, not, cond, ◌&&◌, List, [], ◌∷◌, ◌++◌, Option, Some, refl, sym, ap, ◌∙◌}
use Rattle.std.specs.Prelude.{Result, Ok, Err, IfOk}
use Rattle.messages.specs.declared.message.NameReply.{NameReply}
use Rattle.gfs_types.specs.declared.config.Config.{Config}
use Rattle.gfs_types.specs.declared.call.Call.{Call}
use Rattle.gfs_types.specs.declared.call.Call.TheVariants as call
use Rattle.gfs_types.specs.declared.refusal.Refusal.{Refusal}
use Rattle.gfs_types.specs.declared.refusal.Refusal.TheVariants.{BadPath, Busy}
use Rattle.gfs_types.specs.Paths.{Path, is_path}
use Rattle.relaxed_file.specs.Names.{Names}
use Rattle.relaxed_file.specs.NameStep.{first_refusal, path_tests, name_tests, outcome_by}
use Rattle.protocol.specs.Logged.{Logged}
use Rattle.protocol.specs.Master.{MasterState}
use Rattle.protocol.specs.MasterNames.{is_busy, master_refusal, reply_by}
use Rattle.master_state.specs.Refusals.{refusal_by}
use Rattle.master_waiting.specs.CallLocks.{are_paths}

-- one path, which is none
bad_one : (x : Bool) → x && true ≡ false → (rest other : List (Bool × Refusal)) → first_refusal ((not x, BadPath) ∷ rest) ≡ first_refusal ((not x, BadPath) ∷ other)
bad_one false e rest other = refl
bad_one true e rest other = cc

-- two, one of which is none
bad_two : (x y : Bool) → x && (y && true) ≡ false → (rest other : List (Bool × Refusal))
    → first_refusal ((not x, BadPath) ∷ (not y, BadPath) ∷ rest) ≡ first_refusal ((not x, BadPath) ∷ (not y, BadPath) ∷ other)
bad_two false y e rest other = refl
bad_two true false e rest other = refl
bad_two true true e rest other = cc

-- the tests of a call, in order
abbrev tests : MasterState → Call → Bool → List (Bool × Refusal)
tests m c b = path_tests m.config c ++ (b, Busy) ∷ name_tests m.logged.names c

abbrev behind : List (Bool × Refusal) → List (Bool × Refusal)
behind [] = []
behind (t ∷ rest) = rest

unlawful : (m : MasterState) (c : Call) (b : Bool) → are_paths c ≡ false → refusal_by m.config m.logged.names b c ≡ master_refusal m c
unlawful m (call.Mkdir p) b e = bad_one (is_path p) e (behind (tests m (call.Mkdir p) b)) (behind (tests m (call.Mkdir p) (is_busy m (call.Mkdir p))))
unlawful m (call.Rmdir p) b e = bad_one (is_path p) e (behind (tests m (call.Rmdir p) b)) (behind (tests m (call.Rmdir p) (is_busy m (call.Rmdir p))))
unlawful m (call.Create p shape) b e = bad_one (is_path p) e (behind (tests m (call.Create p shape) b)) (behind (tests m (call.Create p shape) (is_busy m (call.Create p shape))))
unlawful m (call.Open p) b e = bad_one (is_path p) e (behind (tests m (call.Open p) b)) (behind (tests m (call.Open p) (is_busy m (call.Open p))))
unlawful m (call.Delete p) b e = bad_one (is_path p) e (behind (tests m (call.Delete p) b)) (behind (tests m (call.Delete p) (is_busy m (call.Delete p))))
unlawful m (call.Rename p q) b e = bad_two (is_path p) (is_path q) e (behind (behind (tests m (call.Rename p q) b))) (behind (behind (tests m (call.Rename p q) (is_busy m (call.Rename p q)))))
unlawful m (call.List p) b e = bad_one (is_path p) e (behind (tests m (call.List p) b)) (behind (tests m (call.List p) (is_busy m (call.List p))))
unlawful m (call.Snapshot p q) b e = bad_two (is_path p) (is_path q) e (behind (behind (tests m (call.Snapshot p q) b))) (behind (behind (tests m (call.Snapshot p q) (is_busy m (call.Snapshot p q)))))
unlawful m (call.Close fd) b e = cc
unlawful m (call.Length fd) b e = cc
unlawful m (call.Write fd offset bytes) b e = cc
unlawful m (call.Append fd bytes) b e = cc
unlawful m (call.Read fd offset count) b e = cc

pub refusal_alike : (m : MasterState) (c : Call) (b : Bool) → (are_paths c ≡ true → b ≡ is_busy m c) → refusal_by m.config m.logged.names b c ≡ master_refusal m c
refusal_alike m c b h = by_paths (are_paths c) refl
  where
    lawful : are_paths c ≡ true → refusal_by m.config m.logged.names b c ≡ master_refusal m c
    lawful e = ap (λ x. refusal_by m.config m.logged.names x c) (h e)

    by_paths : (x : Bool) → are_paths c ≡ x → refusal_by m.config m.logged.names b c ≡ master_refusal m c
    by_paths true e = lawful e
    by_paths false e = unlawful m c b e

-- what a state of these names refuses, of a call that was taken apart
pub refused_so : {E : Type 0} (result : Result (Option Refusal) E) (m : MasterState) (c told : Call) (b : Bool) (names : Names)
    → IfOk result (λ r. (config : Config) → r ≡ refusal_by config names b told) → names ≡ m.logged.names → c ≡ told → (are_paths c ≡ true → b ≡ is_busy m c)
    → IfOk result (λ r. r ≡ master_refusal m c)
refused_so (Ok r) m c told b names h same is busy =
    h m.config ∙ ap (λ n. refusal_by m.config n b told) same ∙ ap (refusal_by m.config m.logged.names b) (sym is) ∙ refusal_alike m c b busy
refused_so (Err e) m c told b names h same is busy = tt

-- the same of a call whose settings matter
pub refused_with : {E : Type 0} (result : Result (Option Refusal) E) (m : MasterState) (c told : Call) (b : Bool) (names : Names) (config : Config)
    → IfOk result (λ r. r ≡ refusal_by config names b told) → config ≡ m.config → names ≡ m.logged.names → c ≡ told → (are_paths c ≡ true → b ≡ is_busy m c)
    → IfOk result (λ r. r ≡ master_refusal m c)
refused_with (Ok r) m c told b names config h settings same is busy =
    h ∙ ap (λ x. refusal_by x names b told) settings ∙ ap (λ n. refusal_by m.config n b told) same ∙ ap (refusal_by m.config m.logged.names b) (sym is) ∙ refusal_alike m c b busy
refused_with (Err e) m c told b names config h settings same is busy = tt

-- what a state of these names and files tells
pub told_so : {E : Type 0} (result : Result NameReply E) (m : MasterState) (c told : Call) (b : Bool) (l : Logged)
    → IfOk result (λ r. (config : Config) → r ≡ reply_by l.table (outcome_by l.names told (refusal_by config l.names b told))) → l ≡ m.logged → c ≡ told
    → (are_paths c ≡ true → b ≡ is_busy m c) → IfOk result (λ r. r ≡ reply_by m.logged.table (outcome_by m.logged.names c (master_refusal m c)))
told_so (Ok r) m c told b l h same is busy =
    h m.config ∙ ap (λ (x : Logged). reply_by x.table (outcome_by x.names told (refusal_by m.config x.names b told))) same
    ∙ ap (λ x. reply_by m.logged.table (outcome_by m.logged.names x (refusal_by m.config m.logged.names b x))) (sym is)
    ∙ ap (λ x. reply_by m.logged.table (outcome_by m.logged.names c x)) (refusal_alike m c b busy)
told_so (Err e) m c told b l h same is busy = tt
