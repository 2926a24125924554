-- A step, from its parts.
use Rattle.std.proofs.Common.{◌≡◌, ℕ, Bool, false, List, [], ◌∷◌, ◌++◌, refl, sym, ap, ◌∙◌}
use Rattle.messages.specs.declared.message.Body.{Body}
use Rattle.messages.specs.declared.message.Message.{Message}
use Rattle.messages.specs.declared.event.NodeInput.{NodeInput}
use Rattle.protocol.specs.Logged.{LogDisk}
use Rattle.protocol.specs.Master.{MasterDoing}
use Rattle.protocol.specs.MasterStep.{master_takes, master_ticks, master_does, finishes}
use Rattle.master_cell.specs.Kinds.{is_name}
use Rattle.master_cell.proofs.Steady.{with_refused, unnamed_keep, ticks_keep}
use Rattle.master_plan.specs.Plans.{PlanState, doing, begun}
use Rattle.master_names.specs.Doing.{IsPlanned}
use Rattle.master_cell.specs.Ends.{Goes}

append_nil : {X : Type 0} (xs : List X) → xs ++ [] ≡ xs
append_nil [] = refl
append_nil (x ∷ xs) = ap (λ l. x ∷ l) (append_nil xs)

module _ (disk : LogDisk) (old new : PlanState) where
  -- a part that uses up none
  steady : (f : MasterDoing → MasterDoing) → ((r : List Bool) → f (with_refused (doing disk old) r) ≡ with_refused (f (doing disk old)) r) → f (doing disk old) ≡ doing disk new → IsPlanned f disk old new
  steady f keeps is = record { used = []; leads = λ rest. keeps rest ∙ ap (λ (d : MasterDoing). with_refused d rest) is }

  pub unnamed : (m : Message) (b : Body) → is_name b ≡ false → master_takes (doing disk old) m b ≡ doing disk new → IsPlanned (λ d. master_takes d m b) disk old new
  unnamed m b h is = steady (λ d. master_takes d m b) (λ r. (unnamed_keep r (doing disk old) m b h).same) is

  pub ticks : master_ticks (doing disk old) ≡ doing disk new → IsPlanned master_ticks disk old new
  ticks is = steady master_ticks (λ r. (ticks_keep r (doing disk old)).same) is

-- the step from its beginning on
pub goes : (disk : LogDisk) (old between new : PlanState) (moment : ℕ) (i : NodeInput)
    → IsPlanned (λ d. master_does d i) disk (begun old moment) between → IsPlanned finishes disk between new → Goes disk old moment i new
goes disk old between new moment i first second =
    record {
      used = first.used ++ second.used;
      leads =
          ap finishes (first.leads second.used)
          ∙ ap (λ (r : List Bool). finishes (record (doing disk between) { refused = r })) (sym (append_nil second.used))
          ∙ second.leads [];
    }
