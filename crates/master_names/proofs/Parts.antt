-- Parts of a step that use up answers to growths of the names.
use Rattle.std.proofs.Common.{◌≡◌, ℕ, Bool, true, false, cond, ◌&&◌, List, [], ◌∷◌, ◌++◌, Some, None, Option, refl, sym, ap, ◌∙◌, subst, append_assoc, IsTrue}
use Rattle.std.specs.Prelude.{not}
use Rattle.gfs_types.specs.declared.call.Call.{Call}
use Rattle.gfs_types.specs.declared.refusal.Refusal.{Refusal}
use Rattle.gfs_types.specs.declared.refusal.Refusal.TheVariants.{NamesFull}
use Rattle.log_records.specs.declared.record.Record.{Record}
use Rattle.relaxed_file.specs.NameStep.{needs_room}
use Rattle.protocol.specs.LogSizes.{checkpoint_fits}
use Rattle.protocol.specs.Logged.{LogDisk, checkpoint_of}
use Rattle.protocol.specs.Master.{MasterState, MasterDoing, appends, fits, is_of_copy, writes_checkpoint}
use Rattle.protocol.specs.MasterSnapshots.{settles_name, refuses_name, changes_names, answers_name}
use Rattle.master_plan.specs.Plans.{PlanState, doing, master_of}
use Rattle.master_plan.specs.Logging.{was_logged, tried}
use Rattle.master_plan.proofs.Logs.{logs_by}
use Rattle.master_names.specs.Doing.{answered, IsPlanned, named, Changes}

-- a part that uses no answers
pub uses_none : (f : MasterDoing → MasterDoing) (disk : LogDisk) (old new : PlanState)
    → ((rest : List Bool) → f (answered disk old rest) ≡ answered disk new rest) → IsPlanned f disk old new
uses_none f disk old new leads = record { used = []; leads = leads }

-- a part that comes to another one, which goes on from another plan
pub goes_on : (f g : MasterDoing → MasterDoing) (disk : LogDisk) (old mid new : PlanState)
    → ((answers : List Bool) → f (answered disk old answers) ≡ g (answered disk mid answers)) → IsPlanned g disk mid new → IsPlanned f disk old new
goes_on f g disk old mid new same does = record { used = does.used; leads = λ rest. same (does.used ++ rest) ∙ does.leads rest }

-- two parts, one after the other
pub then_does : (f g : MasterDoing → MasterDoing) (disk : LogDisk) (old mid new : PlanState) → IsPlanned f disk old mid → IsPlanned g disk mid new → IsPlanned (λ d. g (f d)) disk old new
then_does f g disk old mid new first second = record {
  used = first.used ++ second.used;
  leads = λ rest.
      ap (λ (answers : List Bool). g (f (answered disk old answers))) (append_assoc first.used second.used rest)
      ∙ ap g (first.leads (second.used ++ rest)) ∙ second.leads rest;
}

-- How a record gets into the log has nothing to do with the answers.
tried_answered : (d : MasterDoing) (r : Record) (rest : List Bool) → tried (record d { refused = rest }) r ≡ record (tried d r) { refused = rest }
tried_answered d r rest =
    by_room (fits d r) (checkpoint_fits d.master.config.log_bytes (checkpoint_of d.master.logged)) (fits (writes_checkpoint d) r && not (is_of_copy d.master.logged r))
  where
    e : MasterDoing
    e = record d { refused = rest }

    by_room : (room checkpoint later : Bool)
        → cond room (appends e r) (cond checkpoint (cond later (appends (writes_checkpoint e) r) (writes_checkpoint e)) e)
        ≡ record (cond room (appends d r) (cond checkpoint (cond later (appends (writes_checkpoint d) r) (writes_checkpoint d)) d)) { refused = rest }
    by_room true checkpoint later = refl
    by_room false true true = refl
    by_room false true false = refl
    by_room false false later = refl

module _ (disk : LogDisk) (client number : ℕ) (entry : Record) (refusal : Option Refusal) (old mid : PlanState) where
  -- a record that got in, or not, and the answer
  settled_by : (b : Bool) → was_logged (doing disk old) entry ≡ b → tried (doing disk old) entry ≡ doing disk mid → (rest : List Bool)
      → settles_name (answered disk old rest) client number entry refusal ≡ cond b (answered disk (named mid client number refusal) rest) (answered disk mid rest)
  settled_by b logged goes rest =
      let then_ : MasterDoing → MasterDoing = λ e. answers_name e client number refusal in
      let is : tried (answered disk old rest) entry ≡ answered disk mid rest =
      tried_answered (doing disk old) entry rest ∙ ap (λ (d : MasterDoing). record d { refused = rest }) goes in
      logs_by (answered disk old rest) entry then_
      ∙ ap (λ (x : Bool). cond x (then_ (tried (answered disk old rest) entry)) (tried (answered disk old rest) entry)) logged
      ∙ ap (λ (d : MasterDoing). cond b (then_ d) d) is

  -- the record is logged, and the call is answered
  pub settles : was_logged (doing disk old) entry ≡ true → tried (doing disk old) entry ≡ doing disk mid → (new : PlanState) → new ≡ named mid client number refusal
      → (rest : List Bool) → settles_name (answered disk old rest) client number entry refusal ≡ answered disk new rest
  settles logged goes new is rest = settled_by true logged goes rest ∙ ap (λ (p : PlanState). answered disk p rest) (sym is)

  -- the record finds no room in the log
  pub settles_not : was_logged (doing disk old) entry ≡ false → tried (doing disk old) entry ≡ doing disk mid
      → (rest : List Bool) → settles_name (answered disk old rest) client number entry refusal ≡ answered disk mid rest
  settles_not logged goes rest = settled_by false logged goes rest

module _ (disk : LogDisk) (client number : ℕ) (entry : Record) (old new : PlanState) where
  -- the names have room
  pub changes : ((rest : List Bool) → settles_name (answered disk old rest) client number entry None ≡ answered disk new rest) → Changes disk client number entry old new
  changes settles c roomy = record {
    used = false ∷ [];
    leads = λ rest.
        ap (λ b. cond b (settles_name (answered disk old rest) client number entry None) (settles_name (answered disk old (false ∷ rest)) client number entry None)) roomy
        ∙ settles rest;
  }

  -- they have none
  pub changes_not : ((rest : List Bool) → refuses_name (answered disk old rest) client number NamesFull ≡ answered disk new rest) → Changes disk client number entry old new
  changes_not refuses c roomy = record {
    used = true ∷ [];
    leads = λ rest.
        ap (λ b. cond b (refuses_name (answered disk old rest) client number NamesFull) (settles_name (answered disk old (true ∷ rest)) client number entry None)) roomy
        ∙ refuses rest;
  }

-- the same from the plan that the room was tried at, with the record that was made
pub changes_with : (disk : LogDisk) (client number : ℕ) (c : Call) (tried_at old new : PlanState) (made entry : Record)
    → tried_at ≡ old → made ≡ entry → IsTrue (needs_room c) → Changes disk client number made tried_at new
    → IsPlanned (λ d. changes_names d client number c entry) disk old new
changes_with disk client number c tried_at old new made entry same is roomy does =
    subst (λ (x : PlanState). IsPlanned (λ d. changes_names d client number c entry) disk x new) same
    (subst (λ (x : Record). IsPlanned (λ d. changes_names d client number c x) disk tried_at new) is (does c roomy))

-- a record's settling, with the record that was made
pub settles_with : (disk : LogDisk) (client number : ℕ) (refusal : Option Refusal) (old new : PlanState) (made entry : Record) → made ≡ entry
    → ((rest : List Bool) → settles_name (answered disk old rest) client number made refusal ≡ answered disk new rest)
    → (rest : List Bool) → settles_name (answered disk old rest) client number entry refusal ≡ answered disk new rest
settles_with disk client number refusal old new made entry is goes rest =
    subst (λ (x : Record). settles_name (answered disk old rest) client number x refusal ≡ answered disk new rest) is (goes rest)

-- a part that looks at the master as it begins
pub from_start : (f : MasterState → MasterDoing → MasterDoing) (disk : LogDisk) (old new : PlanState)
    → IsPlanned (f (master_of disk old)) disk old new → IsPlanned (λ d. f d.master d) disk old new
from_start f disk old new does = record { used = does.used; leads = does.leads }
