-- The lines of a script are explained: each step leads on from a world that events led to, under kept clocks.
use Rattle.std.proofs.Common.{◌≡◌, ◌≤◌, ◌<◌, ◌+◌, ℕ, zero, suc, Bool, true, false, List, [], ◌∷◌, length, Option, Some, None, Ok, Err, inl, inr, refl, sym, ap, ◌∙◌, subst, arith}
use Rattle.std.specs.Prelude.{◌⊎◌, ◌&&◌, is_none, option_map, IsTrue, IsFalse}
use Rattle.std.proofs.lemmas.Bool.{and_from, and_parts}
use Rattle.gfs_types.specs.Settings.{first_out_of_range}
use Rattle.gfs_types.specs.declared.answer.Answer.{Answer}
use Rattle.gfs_types.specs.declared.ids.Node.{Node}
use Rattle.messages.specs.declared.event.Event.{Event}
use Rattle.messages.specs.declared.event.Event.TheVariants as event
use Rattle.messages.specs.declared.message.Message.{Message}
use Rattle.script.specs.declared.options.Options.{Options}
use Rattle.script.specs.declared.script_fault.ScriptFault.{ScriptFault}
use Rattle.script.specs.declared.script_fault.ScriptFault.TheVariants as fault
use Rattle.protocol.specs.Conforms.{WorldRuns}
use Rattle.protocol.specs.World.{WorldState, happens, numbered_from_1, IsReached}
use Rattle.laws_base.specs.Answered.{node_of as node_in}
use Rattle.protocol_journal.specs.Rebased.{raised_event, restart_events}
use Rattle.cell_world.specs.Held.{HeldCell}
use Rattle.cell_world.specs.Looks.{server_count}
use Rattle.cell_core.specs.Standing.{StandsFor}
use Rattle.cell_core.specs.Traced.{AddsToTrace}
use Rattle.cell_core.proofs.Cuts.{StepsTo, drops_all, steps_to, rebases_to}
use Rattle.cell_core.proofs.Traced.{events_add_to_the_trace}
use Rattle.cell_core.proofs.Explained.{explained, reached_on}
use Rattle.script.specs.declared.cell_lines.CellLine.{CellLine}
use Rattle.script.specs.declared.cell_lines.CellLine.TheVariants as line
use Rattle.cell_simulator.specs.Cells.{Meaning}
use Rattle.cell_simulator.specs.Steps.{Step, Simulated, DropsTimes, Stays, Lead, Rise, line_of_step, lines_of, moment_of, node_of}
use Rattle.cell_simulator.specs.Lines.{ComesTo}
use Rattle.cell_simulator.specs.Scripts.{ComeTo, RunsOn, StopsWith}
use Rattle.shell.specs.Worlds.{DropsMessages, Steps}
use Rattle.memory_nodes.specs.Starts.{is_count}
use Rattle.shell.specs.Cells.{IsNew, are_in_range, world_of}
use Rattle.shell.specs.Explained.{LeadsTo, MayDrop, LeadTo, LineLeads, raised_step, IsRunOfMachine, AreRunsOfMachine, AreExplained, IsEndlessExplained, AreExplainedUntil}
use Rattle.shell.specs.Scripts.{at_0}
use Rattle.shell.proofs.Clocks.{AreClocksKept, later, clocks_kept}
use Rattle.shell.proofs.Printed.{Adds, adds_nothing, adds_both, step_adds}
use Rattle.shell.proofs.Raised.{moment_raised, node_raised}
use Rattle.shell.proofs.Restarts.{restarts_go_quietly}

none_there : {X : Type 0} (o : Option X) → is_none o ≡ true → o ≡ None
none_there None h = refl
none_there (Some x) h = absurd (cc)

-- a cell was made, so the settings are in range
made : {X : Type 0} (cell : X) (b : Bool) → (IsFalse b → Ok cell ≡ Err fault.Start) → IsTrue b
made cell true h = refl
made cell false h = absurd (let never : Ok cell ≡ Err fault.Start = h refl in cc)

pub settings_in_range : {X : Type 0} (o : Options) (cell : X) → (IsFalse (are_in_range o) → Ok cell ≡ Err fault.Start) → first_out_of_range o.config ≡ None
settings_in_range o cell h =
    let counts = and_parts (is_none (first_out_of_range o.config) && is_count o.servers) (is_count o.clients) (made cell (are_in_range o) h) in
    none_there (first_out_of_range o.config) (and_parts (is_none (first_out_of_range o.config)) (is_count o.servers) counts.0).0

-- events led to this world from the new one, under kept clocks, and the cell stands for it, but for the messages that it dropped
pub record StandsAt (o : Options) (cell : HeldCell) (clock : ℕ) (w : WorldState) (dropped : List Message) : Type 0 where
  pub reached : IsReached o.config o.servers o.clients w
  pub held_as : StandsFor w dropped cell
  pub clocks : AreClocksKept w.observer clock

stands_new : (o : Options) (cell : HeldCell) → IsNew o cell → StandsAt o cell 0 (world_of o) []
stands_new o cell new = record {
  reached = ([], refl);
  held_as = record { cut = world_of o; is_cut = record { but_sent = refl; sent_is = refl }; held = new };
  clocks = record { kept = refl; behind = let first : 0 ≤ 0 = omega arith in first };
}

step_on : (o : Options) (old new : HeldCell) (clock : ℕ) (w : WorldState) (dropped : List Message) (s : Step) → StandsAt o old clock w dropped → node_in w.sent (raised_event (length dropped) s.event) ≡ Some s.node
    → clock ≤ moment_of clock s.event → Steps old s.event s.answer new
    → (v : WorldState) × LeadsTo w (raised_step dropped s) v × Adds w v (line_of_step s) × StandsAt o new (moment_of clock s.event) v dropped
step_on o old new clock w dropped s at there le does =
    let e : Event = raised_event (length dropped) s.event in
    let same : moment_of clock e ≡ moment_of clock s.event = moment_raised (length dropped) clock s.event in
    let k : StepsTo w dropped e s.answer new = steps_to w dropped old new s.event s.answer at.held_as does in
    let v : WorldState = (happens w e k.choice).world in
    let traced : AddsToTrace w e s.answer v = subst (λ (a : Option Answer). AddsToTrace w e a v) k.answer_is (events_add_to_the_trace w e k.choice) in (
      v,
      record { choice = k.choice; answer_is = k.answer_is; world_is = refl; traced = traced },
      step_adds w v e k.choice s.node s.answer there k.answer_is traced,
      record {
        reached = reached_on o.config o.servers o.clients w v at.reached ((e, k.choice) ∷ []) refl;
        held_as = k.stands;
        clocks = subst (λ (to : ℕ). AreClocksKept v.observer to) same (clocks_kept w e k.choice clock (subst (λ (to : ℕ). clock ≤ to) (sym same) le) at.clocks);
      },
    )

-- the greatest moment is not past the clock
greatest_before : (o : Options) (cell : HeldCell) (clock : ℕ) (w : WorldState) (dropped : List Message) → StandsAt o cell clock w dropped → cell.greatest ≤ clock
greatest_before o cell clock w dropped at =
    let same : w.observer.greatest ≡ cell.greatest = ap (λ (v : WorldState). v.observer.greatest) at.held_as.is_cut.but_sent ∙ at.held_as.held.greatest in
    subst (λ (n : ℕ). n ≤ clock) same at.clocks.behind

-- all messages are dropped
rebase_on : (o : Options) (old new : HeldCell) (clock : ℕ) (w : WorldState) (dropped : List Message) → StandsAt o old clock w dropped → DropsMessages old clock new
    → (v : WorldState) × WorldRuns w (restart_events (server_count old) clock) [] v × Adds w v [] × StandsAt o new clock v v.sent
rebase_on o old new clock w dropped at (inl rebases) =
    let it = rebases_to w dropped old new clock at.held_as rebases in
    let quiet = restarts_go_quietly w it.0 (server_count old) clock it.1 at.clocks in
    (it.0, it.1, quiet.0, record { reached = reached_on o.config o.servers o.clients w it.0 at.reached it.1.steps it.1.leads; held_as = it.2; clocks = quiet.1 })
rebase_on o old new clock w dropped at (inr behind) =
    let late : clock + old.config.skew_ms < old.greatest = behind.0 in
    absurd (omega (arith, late, greatest_before o old clock w dropped at))

-- messages are dropped, and nothing else happens
without : (o : Options) (old new : HeldCell) (clock : ℕ) (w : WorldState) (dropped : List Message) → StandsAt o old clock w dropped → new ≡ record old { sent = [] } → StandsAt o new clock w w.sent
without o old new clock w dropped at same = record { reached = at.reached; held_as = drops_all old new same w dropped at.held_as; clocks = at.clocks }

all_dropped : (w : WorldState) (last : List Message) → MayDrop w w.sent last → last ≡ w.sent
all_dropped w last (inl same) = same
all_dropped w last (inr same) = same

-- what is told of a cell is so of what it holds
pub record IsOfHeld {C : Type 0} (m : Meaning C) (held : C → HeldCell) : Type 0 where
  pub steps : (old new : C) (e : Event) (answer : Option Answer) → m.steps old e answer new → Steps (held old) e answer (held new)
  pub rebases : (old new : C) (moment : ℕ) → m.rebases old moment new → DropsMessages (held old) moment (held new)
  pub drops : (old new : C) → m.drops old new → held new ≡ record (held old) { sent = [] }
  pub message : (c : C) (number : ℕ) → m.message c number ≡ numbered_from_1 (held c).sent number

-- under settings in range
module _ {C : Type 0} (m : Meaning C) (held : C → HeldCell) (so : IsOfHeld m held) (o : Options) (in_range : first_out_of_range o.config ≡ None) where
  -- a cell that took no step stands at the same world
  record Stood (w : WorldState) (dropped : List Message) (cell : C) (clock : ℕ) : Type 0 where
    pub gone : List Message
    pub may : MayDrop w dropped gone
    pub stands : StandsAt o (held cell) clock w gone

  stood_on : (times : ℕ) (old new : C) (clock : ℕ) (w : WorldState) (dropped : List Message) → StandsAt o (held old) clock w dropped → DropsTimes m times old new → Stood w dropped new clock
  stood_on zero old new clock w dropped at same = record { gone = dropped; may = inl refl; stands = subst (λ (c : C). StandsAt o (held c) clock w dropped) (sym same) at }
  stood_on (suc times) old new clock w dropped at drops =
      let first : StandsAt o (held drops.0) clock w w.sent = without o (held old) (held drops.0) clock w dropped at (so.drops old drops.0 drops.1) in
      let last : Stood w w.sent new clock = stood_on times drops.0 new clock w w.sent first drops.2 in
      record { gone = last.gone; may = inr (all_dropped w last.gone last.may); stands = last.stands }

  stays_on : (old new : C) (clock : ℕ) (w : WorldState) (dropped : List Message) → StandsAt o (held old) clock w dropped → Stays m old new → Stood w dropped new clock
  stays_on old new clock w dropped at stays = stood_on stays.times old new clock w dropped at stays.drops

  -- where steps led to, and the messages that were dropped until then
  record Stepped (w : WorldState) (dropped : List Message) (steps : List Step) (cell : C) (clock : ℕ) : Type 0 where
    pub world : WorldState
    pub gone : List Message
    pub leads : LeadTo w dropped steps world gone
    pub adds : Adds w world (lines_of steps)
    pub stands : StandsAt o (held cell) clock world gone

  steps_on : (old new : C) (from to : ℕ) (w : WorldState) (dropped : List Message) (steps : List Step) → StandsAt o (held old) from w dropped → Lead m old steps new → Rise from steps to → Stepped w dropped steps new to
  steps_on old new from to w dropped [] at leads rises =
      let here : Stood w dropped new from = stays_on old new from w dropped at leads in
      record {
        world = w;
        gone = here.gone;
        leads = (refl, here.may);
        adds = adds_nothing w;
        stands = record { reached = here.stands.reached; held_as = here.stands.held_as; clocks = later w.observer from to rises here.stands.clocks };
      }
  steps_on old new from to w dropped (s ∷ rest) at leads rises =
      let v : C = leads.0 in
      let next : C = leads.2 in
      let here : Stood w dropped v from = stays_on old v from w dropped at leads.1 in
      let there = node_raised m v w here.gone (held v) here.stands.held_as (so.message v) s.event s.node leads.3 in
      let first = step_on o (held v) (held next) from w here.gone s here.stands there rises.0 (so.steps v next s.event s.answer leads.4) in
      let last : Stepped first.0 here.gone rest new to = steps_on next new (moment_of from s.event) to first.0 here.gone rest first.3 leads.5 rises.1 in
      record {
        world = last.world;
        gone = last.gone;
        leads = (here.gone, here.may, first.0, first.1, last.leads);
        adds = adds_both w first.0 last.world (line_of_step s) (lines_of rest) first.2 last.adds;
        stands = last.stands;
      }

  -- the world at which a cell stands is explained
  explained_at : (cell : HeldCell) (clock : ℕ) (w v : WorldState) (dropped : List Message) (printed : List ℕ) → Adds w v printed → StandsAt o cell clock v dropped → IsRunOfMachine w dropped printed cell v
  explained_at cell clock w v dropped printed adds stands = record {
    held_as = stands.held_as;
    seen = adds.seen;
    trace_is = adds.trace_is;
    answers_are = adds.shown;
    explained = λ disks. explained o.config o.servers o.clients v stands.reached in_range (and_from v.observer.are_clocks_kept v.observer.are_disks_kept stands.clocks.kept disks);
  }

  -- where a line leads to, and the messages that were dropped until then
  record GoesOn (w : WorldState) (dropped : List Message) (old : Simulated C) (l : CellLine) (steps : List Step) (new : Simulated C) : Type 0 where
    pub world : WorldState
    pub gone : List Message
    pub leads : LineLeads held w dropped old l steps world gone
    pub runs : IsRunOfMachine w gone (lines_of steps) (held new.cell) world
    pub stands : StandsAt o (held new.cell) new.clock world gone

  record GoesBySteps (w : WorldState) (dropped : List Message) (steps : List Step) (new : Simulated C) : Type 0 where
    pub world : WorldState
    pub gone : List Message
    pub leads : LeadTo w dropped steps world gone
    pub runs : IsRunOfMachine w gone (lines_of steps) (held new.cell) world
    pub stands : StandsAt o (held new.cell) new.clock world gone

  by_steps : (old new : Simulated C) (w : WorldState) (dropped : List Message) (steps : List Step) → StandsAt o (held old.cell) old.clock w dropped → Lead m old.cell steps new.cell → Rise old.clock steps new.clock
      → GoesBySteps w dropped steps new
  by_steps old new w dropped steps at leads rises =
      let last : Stepped w dropped steps new.cell new.clock = steps_on old.cell new.cell old.clock new.clock w dropped steps at leads rises in
      record {
        world = last.world;
        gone = last.gone;
        leads = last.leads;
        runs = explained_at (held new.cell) new.clock w last.world last.gone (lines_of steps) last.adds last.stands;
        stands = last.stands;
      }

  -- a line that leads on by its steps
  by_lead : (old new : Simulated C) (w : WorldState) (dropped : List Message) (l : CellLine) (steps : List Step) → ((v : WorldState) (later : List Message) → LeadTo w dropped steps v later → LineLeads held w dropped old l steps v later)
      → StandsAt o (held old.cell) old.clock w dropped → Lead m old.cell steps new.cell → Rise old.clock steps new.clock → GoesOn w dropped old l steps new
  by_lead old new w dropped l steps so_leads at leads rises =
      let it : GoesBySteps w dropped steps new = by_steps old new w dropped steps at leads rises in
      record { world = it.world; gone = it.gone; leads = so_leads it.world it.gone it.leads; runs = it.runs; stands = it.stands }

  -- a line that makes no event
  by_nothing : (old new : Simulated C) (w : WorldState) (dropped : List Message) (l : CellLine) (steps : List Step) → ((v : WorldState) (later : List Message) → LeadTo w dropped steps v later → LineLeads held w dropped old l steps v later)
      → StandsAt o (held old.cell) old.clock w dropped → steps ≡ [] → new.cell ≡ old.cell → Rise old.clock steps new.clock → GoesOn w dropped old l steps new
  by_nothing old new w dropped l steps so_leads at none same rises =
      by_lead old new w dropped l steps so_leads at (subst (λ (all : List Step). Lead m old.cell all new.cell) (sym none) (record { times = zero; drops = same })) rises

  by_rebase : (old new : Simulated C) (w : WorldState) (dropped : List Message) → StandsAt o (held old.cell) old.clock w dropped → m.rebases old.cell old.clock new.cell → new.clock ≡ old.clock
      → GoesOn w dropped old line.Rebase [] new
  by_rebase old new w dropped at rebases same =
      let last = rebase_on o (held old.cell) (held new.cell) old.clock w dropped at (so.rebases old.cell new.cell old.clock rebases) in
      let v : WorldState = last.0 in
      let stands : StandsAt o (held new.cell) new.clock v v.sent = subst (λ (clock : ℕ). StandsAt o (held new.cell) clock v v.sent) (sym same) last.3 in
      record { world = v; gone = v.sent; leads = (last.1, refl); runs = explained_at (held new.cell) new.clock w v v.sent [] last.2 stands; stands = stands }

  line_on : (old new : Simulated C) (w : WorldState) (dropped : List Message) (l : CellLine) (printed : List ℕ) → StandsAt o (held old.cell) old.clock w dropped → (comes : ComesTo m old l new printed)
      → GoesOn w dropped old l comes.steps new
  line_on old new w dropped line.Rebase printed at comes =
      subst (λ (steps : List Step). GoesOn w dropped old line.Rebase steps new) (sym comes.makes) (by_rebase old new w dropped at comes.leads comes.leaves)
  line_on old new w dropped (line.Call asked) printed at comes = by_lead old new w dropped (line.Call asked) comes.steps (λ v later leads. leads) at comes.leads comes.rises
  line_on old new w dropped (line.Start asked) printed at comes = by_lead old new w dropped (line.Start asked) comes.steps (λ v later leads. leads) at comes.leads comes.rises
  line_on old new w dropped line.Finish printed at comes = by_lead old new w dropped line.Finish comes.steps (λ v later leads. leads) at comes.leads comes.rises
  line_on old new w dropped (line.Wait count) printed at comes = by_lead old new w dropped (line.Wait count) comes.steps (λ v later leads. leads) at comes.leads comes.rises
  line_on old new w dropped line.Free printed at comes = by_lead old new w dropped line.Free comes.steps (λ v later leads. leads) at comes.leads comes.rises
  line_on old new w dropped (line.Restart n) printed at comes = by_lead old new w dropped (line.Restart n) comes.steps (λ v later leads. leads) at comes.leads comes.rises
  line_on old new w dropped (line.Fuse n calls torn) printed at comes = by_lead old new w dropped (line.Fuse n calls torn) comes.steps (λ v later leads. leads) at comes.leads comes.rises
  line_on old new w dropped (line.Rot server chunk place byte) printed at comes =
      by_lead old new w dropped (line.Rot server chunk place byte) comes.steps (λ v later leads. leads) at comes.leads comes.rises
  line_on old new w dropped other printed at comes = by_nothing old new w dropped other comes.steps (λ v later leads. leads) at comes.makes comes.leads comes.rises

  lines_on : (old : Simulated C) (lines : List CellLine) (new : Simulated C) (printed : List ℕ) (w : WorldState) (dropped : List Message) → StandsAt o (held old.cell) old.clock w dropped → (come : ComeTo m old lines new printed)
      → (v : WorldState) × (last : List Message) × AreRunsOfMachine m held w dropped old lines new printed come v last × StandsAt o (held new.cell) new.clock v last
  lines_on old [] new printed w dropped at come = (w, dropped, (refl, refl), subst (λ (s : Simulated C). StandsAt o (held s.cell) s.clock w dropped) (sym come.0) at)
  lines_on old (l ∷ rest) new printed w dropped at come =
      let first : GoesOn w dropped old l come.3.steps come.0 = line_on old come.0 w dropped l come.1 at come.3 in
      let last = lines_on come.0 rest new come.2 first.world first.gone first.stands come.4 in
      (last.0, last.1, (first.world, first.gone, first.leads, first.runs, last.2), last.3)

  -- lines on a new cell
  pub all_explained : (first : C) → IsNew o (held first) → (last : Simulated C) (before after : Option (List ℕ)) (lines : List CellLine) (r : RunsOn m (at_0 first) last before after lines)
      → (v : WorldState) × (dropped : List Message) × AreExplained held (world_of o) r v dropped × StandsAt o (held last.cell) last.clock v dropped
  all_explained first new last before after lines r = lines_on (at_0 first) lines last r.printed (world_of o) [] (stands_new o (held first) new) r.come

  endless_explained : (w : WorldState) (dropped : List Message) (old : Simulated C) (before after : Option (List ℕ)) → StandsAt o (held old.cell) old.clock w dropped → IsEndlessExplained m held w dropped old before after
  endless_explained w dropped old before after at l new endless =
      let last : GoesBySteps w dropped endless.goes.steps new = by_steps old new w dropped endless.goes.steps at endless.goes.leads endless.goes.rises in
      (last.world, last.gone, last.leads, last.runs)

  pub explained_until : (first : C) → IsNew o (held first) → (script before after : Option (List ℕ)) (f : ScriptFault) (stops : StopsWith m (at_0 first) script before after f) → AreExplainedUntil m held (world_of o) (at_0 first) script before after f stops
  explained_until first new script before after (fault.Line number) stops =
      let ran = all_explained first new _ _ _ _ stops.runs in
      (ran.0, ran.1, ran.2)
  explained_until first new script before after (fault.NoEnd number) stops =
      let ran = all_explained first new _ _ _ _ stops.runs in
      (ran.0, ran.1, ran.2, endless_explained ran.0 ran.1 stops.world stops.middle after ran.3)
  explained_until first new script before after fault.Read stops =
      let ran = all_explained first new _ _ _ _ stops.1.runs in
      (ran.0, ran.1, ran.2)
  explained_until first new script before after fault.Start stops = tt
  explained_until first new script before after fault.NoMemory stops = tt
  explained_until first new script before after fault.Write stops = tt
