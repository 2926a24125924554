-- What a part of the code hands back of a part of a step, which uses up answers to growths of the names.
use Rattle.std.specs.Prelude.{◌≡◌, ℕ, Bool, List, ◌++◌, Option, IsTrue}
use Rattle.gfs_types.specs.declared.call.Call.{Call}
use Rattle.gfs_types.specs.declared.refusal.Refusal.{Refusal}
use Rattle.messages.specs.declared.message.NameReply.TheVariants.{Answered}
use Rattle.messages.specs.declared.message.Body.TheVariants as body
use Rattle.log_records.specs.declared.record.Record.{Record}
use Rattle.relaxed_file.specs.NameStep.{needs_room}
use Rattle.protocol.specs.Sending.{the_client}
use Rattle.protocol.specs.Logged.{LogDisk}
use Rattle.protocol.specs.Master.{MasterDoing}
use Rattle.protocol.specs.MasterSnapshots.{reply_of, changes_names}
use Rattle.master_plan.specs.Plans.{PlanState, doing, told}

-- the step so far, with these answers left
abbrev pub answered : LogDisk → PlanState → List Bool → MasterDoing
answered disk p answers = record (doing disk p) { refused = answers }

-- A part of a step leads from one plan to another, for some answers, beside those that the rest of the step uses.
pub record IsPlanned (f : MasterDoing → MasterDoing) (disk : LogDisk) (old new : PlanState) : Type 0 where
  pub used : List Bool
  pub leads : (rest : List Bool) → f (answered disk old (used ++ rest)) ≡ answered disk new rest

-- the answer to a changing name call is sent
abbrev pub named : PlanState → ℕ → ℕ → Option Refusal → PlanState
named p client number refusal = told p (the_client client) (body.Named number (Answered (reply_of refusal)))

-- a call that needs room for names is logged, or that there is none
abbrev pub Changes : LogDisk → ℕ → ℕ → Record → PlanState → PlanState → Type 0
Changes disk client number entry old new = (c : Call) → IsTrue (needs_room c) → IsPlanned (λ d. changes_names d client number c entry) disk old new
