-- What a cell does that dropped messages is done in each world that it stands for.
use Rattle.std.proofs.Common.{◌≡◌, ℕ, List, [], map, length, Option, refl, sym, subst, ap, ◌∙◌}
use Rattle.std.proofs.lemmas.List.{append-nil}
use Rattle.std.specs.Prelude.{Result, Ok, Err, IfOk}
use Rattle.gfs_types.specs.declared.answer.Answer.{Answer}
use Rattle.messages.specs.declared.event.Event.{Event}
use Rattle.messages.specs.declared.event.StepOut.{StepOut}
use Rattle.messages.specs.declared.message.Message.{Message}
use Rattle.protocol.specs.Choice.{Choice}
use Rattle.protocol.specs.Conforms.{WorldRuns}
use Rattle.protocol.specs.World.{WorldState, happens}
use Rattle.protocol_journal.specs.Rebased.{raised_event, restart_events, without_messages}
use Rattle.protocol_journal.proofs.CutWorlds.{cut_worlds_go_alike, cut_runs_are_runs, rebases_are_runs}
use Rattle.cell_world.specs.Held.{HeldCell, IsHeldAs, HasEffect}
use Rattle.cell_world.specs.Looks.{server_count}
use Rattle.cell_world.specs.Rebasing.{Rebases}
use Rattle.cell_world.specs.Runs.{Runs}
use Rattle.cell_core.specs.Standing.{DropsAll, StandsFor, IsShown}

-- events lead to a world that the new cell stands for
pub record RunsTo (w : WorldState) (earlier : List Message) (events : List Event) (answers : List Answer) (new : HeldCell) : Type 0 where
  pub next : WorldState
  pub runs : WorldRuns w (map (raised_event (length earlier)) events) answers next
  pub stands : StandsFor next earlier new

pub runs_to : (w : WorldState) (earlier : List Message) (old new : HeldCell) (events : List Event) (answers : List Answer) → StandsFor w earlier old → Runs old events answers new → RunsTo w earlier events answers new
runs_to w earlier old new events answers s runs =
    let it = runs s.cut s.held in
    let all = cut_runs_are_runs w s.cut it.0 earlier events answers s.is_cut it.1 in
    record { next = all.0; runs = all.1; stands = record { cut = it.0; is_cut = all.2; held = it.2 } }

-- so does one event
pub record StepsTo (w : WorldState) (earlier : List Message) (e : Event) (answer : Option Answer) (new : HeldCell) : Type 0 where
  pub choice : Choice
  pub answer_is : (happens w e choice).out.answer ≡ answer
  pub stands : StandsFor (happens w e choice).world earlier new

pub steps_to : (w : WorldState) (earlier : List Message) (old new : HeldCell) (event : Event) (answer : Option Answer) → StandsFor w earlier old → HasEffect old (λ v choice. happens v event choice) answer new
    → StepsTo w earlier (raised_event (length earlier) event) answer new
steps_to w earlier old new event answer s has =
    let it = has s.cut s.held in
    let alike = cut_worlds_go_alike w s.cut earlier s.is_cut event it.0 in
    record {
      choice = it.0;
      answer_is = ap (λ (o : StepOut). o.answer) alike.out_is ∙ it.1;
      stands = record { cut = (happens s.cut event it.0).world; is_cut = alike.world_is; held = it.2 };
    }

-- and restarts, after which all messages are dropped
pub rebases_to : (w : WorldState) (earlier : List Message) (old new : HeldCell) (moment : ℕ) → StandsFor w earlier old → Rebases old moment new
    → (next : WorldState) × WorldRuns w (restart_events (server_count old) moment) [] next × StandsFor next next.sent new
rebases_to w earlier old new moment s rebases =
    let it = rebases s.cut s.held in
    let all = rebases_are_runs w s.cut it.0 earlier (server_count old) moment s.is_cut it.1 in
    (all.0, all.1, record { cut = without_messages it.0; is_cut = all.2; held = it.2 })

-- all messages are dropped, and nothing else happens
pub drops_all : (old new : HeldCell) → new ≡ record old { sent = [] } → DropsAll old new
drops_all old new is w earlier s =
    let held : IsHeldAs (without_messages s.cut) (record old { sent = [] }) =
    record {
      config = s.held.config;
      master = s.held.master;
      files = s.held.files;
      servers = s.held.servers;
      clients = s.held.clients;
      sent = refl;
      orders = s.held.orders;
      greatest = s.held.greatest;
    } in
    record {
      cut = without_messages s.cut;
      is_cut = record { but_sent = ap without_messages s.is_cut.but_sent; sent_is = sym (append-nil w.sent) };
      held = subst (λ (h : HeldCell). IsHeldAs (without_messages s.cut) h) (sym is) held;
    }

-- A look at a world that doesn't see its messages shows the same of each world that the cell stands for.
shown_of_cuts : {X : Type 0} (look : WorldState → X) → ((w : WorldState) (sent : List Message) → look (record w { sent = sent }) ≡ look w) → (h : HeldCell) (found : X) → ((w : WorldState) → IsHeldAs w h → found ≡ look w)
    → IsShown h look found
shown_of_cuts look blind h found shown w earlier s = shown s.cut s.held ∙ (sym (ap look s.is_cut.but_sent) ∙ blind w s.cut.sent)

shown_if_ok : {V E X : Type 0} (look : WorldState → X) → ((w : WorldState) (sent : List Message) → look (record w { sent = sent }) ≡ look w) → (h : HeldCell) (r : Result V E) (given : V → X)
    → IfOk r (λ found. (w : WorldState) → IsHeldAs w h → given found ≡ look w) → IfOk r (λ found. IsShown h look (given found))
shown_if_ok look blind h (Ok found) given shown = shown_of_cuts look blind h (given found) shown
shown_if_ok look blind h (Err e) given shown = tt

-- the same of a cell that is what stands inside a world
pub shown_of_world : {X : Type 0} (look : WorldState → X) → ((w : WorldState) (sent : List Message) → look (record w { sent = sent }) ≡ look w) → (inside h : HeldCell) (found : X) → inside ≡ h
    → ((w : WorldState) → IsHeldAs w inside → found ≡ look w) → IsShown h look found
shown_of_world look blind inside h found same shown = subst (λ (c : HeldCell). IsShown c look found) same (shown_of_cuts look blind inside found shown)

pub shown_if_any : {V E X : Type 0} (look : WorldState → X) → ((w : WorldState) (sent : List Message) → look (record w { sent = sent }) ≡ look w) → (inside h : HeldCell) (r : Result V E) (given : V → X) → inside ≡ h
    → IfOk r (λ found. (w : WorldState) → IsHeldAs w inside → given found ≡ look w) → IfOk r (λ found. IsShown h look (given found))
shown_if_any look blind inside h r given same shown = subst (λ (c : HeldCell). IfOk r (λ found. IsShown c look (given found))) same (shown_if_ok look blind inside r given shown)
