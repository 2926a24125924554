-- Runs, steps and rebases of a cell are explained, since each reached world is.
use Rattle.std.proofs.Common.{◌≡◌, ℕ, List, [], ◌∷◌, ◌++◌, map, length, Option, Result, Ok, Err, refl, subst, ap, ◌∙◌}
use Rattle.std.specs.Prelude.{IfOk, OnOk}
use Rattle.gfs_types.specs.declared.answer.Answer.{Answer}
use Rattle.gfs_types.specs.declared.config.Config.{Config}
use Rattle.messages.specs.declared.event.Event.{Event}
use Rattle.messages.specs.declared.message.Message.{Message}
use Rattle.protocol.specs.Choice.{Choice}
use Rattle.protocol.specs.Conforms.{WorldRuns}
use Rattle.protocol.specs.World.{WorldState, happens, new_world, after_events, IsReached}
use Rattle.headline.proofs.SettingsInRange.{settings_in_range_are_so}
use Rattle.headline.proofs.Induction.{answers_are_a_run}
use Rattle.promises.proofs.KeptPromises.{explained_worlds_are_promised}
use Rattle.protocol_journal.specs.Rebased.{raised_event, restart_events}
use Rattle.cell_world.specs.Held.{HeldCell, HasEffect}
use Rattle.cell_world.specs.Looks.{server_count}
use Rattle.cell_world.specs.Rebasing.{Rebases}
use Rattle.cell_world.specs.Runs.{Runs}
use Rattle.cell_world.proofs.Running.{after_more}
use Rattle.cell_core.specs.Traced.{AddsToTrace}
use Rattle.cell_core.specs.Headline.{IsMachineRun, AreAnswersARun, RunsAsMachine, LeadsAsMachine, StepsAsMachine, RebasesAsMachine, ArePromisesKept}
use Rattle.cell_core.proofs.Traced.{events_add_to_the_trace}
use Rattle.cell_core.proofs.Cuts.{RunsTo, StepsTo, runs_to, steps_to, rebases_to}

pub explained : (config : Config) (servers clients : ℕ) (w : WorldState) → IsReached config servers clients w → IsMachineRun config w
explained config servers clients w r in_range kept = answers_are_a_run config servers clients w (settings_in_range_are_so config in_range) r kept

pub reached_on : (config : Config) (servers clients : ℕ) (w next : WorldState) → IsReached config servers clients w → (steps : List (Event × Choice)) → after_events w steps ≡ next → IsReached config servers clients next
reached_on config servers clients w next r steps leads = (r.0 ++ steps, after_more (new_world config servers clients) r.0 steps ∙ (ap (λ (v : WorldState). after_events v steps) r.1 ∙ leads))

-- the world that a run led to is explained
ran : (config : Config) (servers clients : ℕ) (w next : WorldState) (events : List Event) (answers : List Answer) → IsReached config servers clients w → WorldRuns w events answers next → IsMachineRun config next
ran config servers clients w next events answers r runs = explained config servers clients next (reached_on config servers clients w next r runs.steps runs.leads)

runs_explained : {V : Type 0} {E : Type 0} (old new : HeldCell) (events : List Event) (items : V → List Answer) (result : Result V E) → IfOk result (λ v. Runs old events (items v) new) → IfOk result (λ v. RunsAsMachine old events (items v) new)
runs_explained old new events items (Ok v) runs = λ config servers clients w earlier r stands.
    let it : RunsTo w earlier events (items v) new = runs_to w earlier old new events (items v) stands runs in
    (it.next, it.runs, it.stands, ran config servers clients w it.next (map (raised_event (length earlier)) events) (items v) r it.runs)
runs_explained old new events items (Err e) runs = tt

leads_so : (config : Config) (servers clients : ℕ) (w : WorldState) (earlier : List Message) (e : Event) (answer : Option Answer) (new : HeldCell) → IsReached config servers clients w → StepsTo w earlier e answer new
    → LeadsAsMachine config w earlier e answer new
leads_so config servers clients w earlier e answer new r it =
    let next : WorldState = (happens w e it.choice).world in (
      it.choice,
      it.answer_is,
      subst (λ (a : Option Answer). AddsToTrace w e a next) it.answer_is (events_add_to_the_trace w e it.choice),
      it.stands,
      explained config servers clients next (reached_on config servers clients w next r ((e, it.choice) ∷ []) refl),
    )

step_explained : (old new : HeldCell) (event : Event) (answer : Option Answer) → HasEffect old (λ w choice. happens w event choice) answer new → StepsAsMachine old event answer new
step_explained old new event answer has = λ config servers clients w earlier r stands.
    leads_so config servers clients w earlier (raised_event (length earlier) event) answer new r (steps_to w earlier old new event answer stands has)

rebase_explained : {V : Type 0} {E : Type 0} (old new : HeldCell) (moment : ℕ) (result : Result V E) → OnOk result (Rebases old moment new) → OnOk result (RebasesAsMachine old moment new)
rebase_explained old new moment (Ok v) rebases = λ config servers clients w earlier r stands.
    let it = rebases_to w earlier old new moment stands rebases in
    (it.0, it.1, it.2, ran config servers clients w it.0 (restart_events (server_count old) moment) [] r it.1)
rebase_explained old new moment (Err e) rebases = tt

-- the same of a cell that is what stands inside a world
pub runs_of_world : {V : Type 0} {E : Type 0} (inside old new : HeldCell) (events : List Event) (items : V → List Answer) (result : Result V E) → inside ≡ old → IfOk result (λ v. Runs inside events (items v) new)
    → IfOk result (λ v. RunsAsMachine old events (items v) new)
runs_of_world {V} inside old new events items result same runs =
    subst (λ (h : HeldCell). IfOk result (λ (v : V). RunsAsMachine h events (items v) new)) same (runs_explained inside new events items result runs)

pub step_of_world : (inside old new : HeldCell) (event : Event) (answer : Option Answer) → inside ≡ old → HasEffect inside (λ w choice. happens w event choice) answer new → StepsAsMachine old event answer new
step_of_world inside old new event answer same has = subst (λ (h : HeldCell). StepsAsMachine h event answer new) same (step_explained inside new event answer has)

pub rebase_of_world : {V : Type 0} {E : Type 0} (inside old new : HeldCell) (moment : ℕ) (result : Result V E) → inside ≡ old → OnOk result (Rebases inside moment new) → OnOk result (RebasesAsMachine old moment new)
rebase_of_world inside old new moment result same rebases = subst (λ (h : HeldCell). OnOk result (RebasesAsMachine h moment new)) same (rebase_explained inside new moment result rebases)

pub all_explained : (h : HeldCell) → AreAnswersARun h
all_explained h config servers clients w earlier r stands = explained config servers clients w r

pub promises_kept : (h : HeldCell) → ArePromisesKept h
promises_kept h config servers clients w earlier r stands in_range = explained_worlds_are_promised config servers clients w (answers_are_a_run config servers clients w) (settings_in_range_are_so config in_range) r
