-- Nodes begin again, one after another, at the clock's moment: clients see no more of it than the clock.
use Rattle.std.proofs.Common.{◌≡◌, ◌≤◌, ℕ, List, [], ◌∷◌, ◌++◌, map, Option, Some, None, refl, sym, ap, ◌∙◌, subst, arith}
use Rattle.std.specs.Option.{option_to_list}
use Rattle.gfs_types.specs.declared.answer.Answer.{Answer}
use Rattle.gfs_types.specs.declared.ids.Node.{Node}
use Rattle.gfs_types.specs.declared.ids.Node.TheVariants as node
use Rattle.messages.specs.declared.event.Event.{Event}
use Rattle.messages.specs.declared.event.Event.TheVariants as event
use Rattle.protocol.specs.Choice.{Choice}
use Rattle.protocol.specs.Conforms.{answers_of, WorldRuns}
use Rattle.protocol.specs.Sending.{moment_of as moment_at, the_server}
use Rattle.protocol.specs.Tables.{first_numbers}
use Rattle.protocol.specs.World.{WorldState, Happened, happens, after_events}
use Rattle.laws_base.specs.Answered.{node_of as node_in}
use Rattle.protocol_journal.specs.Rebased.{restart_events}
use Rattle.cell_core.specs.Traced.{AddsToTrace}
use Rattle.cell_core.proofs.Traced.{events_add_to_the_trace}
use Rattle.cell_simulator.specs.Steps.{moment_of}
use Rattle.shell.proofs.Clocks.{AreClocksKept, clocks_kept}
use Rattle.shell.proofs.Printed.{Adds, adds_nothing, adds_both, no_line, step_adds}

-- each is a restart at this moment
abbrev AreRestarts : ℕ → List Event → Type 0
AreRestarts moment [] = Unit {0}
AreRestarts moment (e ∷ rest) = ((n : Node) × (e ≡ event.Restart n (moment_at moment))) × AreRestarts moment rest

of_servers : (moment : ℕ) (numbers : List ℕ) → AreRestarts moment (map (λ (s : ℕ). event.Restart (the_server s) (moment_at moment)) numbers)
of_servers moment [] = tt
of_servers moment (s ∷ rest) = ((the_server s, refl), of_servers moment rest)

of_all : (servers moment : ℕ) → AreRestarts moment (restart_events servers moment)
of_all servers moment = ((node.Master, refl), of_servers moment (first_numbers servers))

-- nothing is answered
none_first : (o : Option Answer) (rest : List Answer) → option_to_list o ++ rest ≡ [] → (o ≡ None) × (rest ≡ [])
none_first None rest none = (refl, none)
none_first (Some a) rest none = absurd (let some : a ∷ rest ≡ [] = none in cc)

-- what is left of a list of restarts: what it added to the trace, and kept clocks
record GoesQuietly (w v : WorldState) (moment : ℕ) : Type 0 where
  pub adds : Adds w v []
  pub clocks : AreClocksKept v.observer moment

at_moment : (moment : ℕ) (e : Event) (n : Node) → e ≡ event.Restart n (moment_at moment) → moment_of moment e ≡ moment
at_moment moment e n is = ap (moment_of moment) is

one_quietly : (w : WorldState) (e : Event) (choice : Choice) (moment : ℕ) (n : Node) → e ≡ event.Restart n (moment_at moment) → (happens w e choice).out.answer ≡ None → AreClocksKept w.observer moment
    → GoesQuietly w (happens w e choice).world moment
one_quietly w e choice moment n is none kept =
    let v : WorldState = (happens w e choice).world in
    let traced : AddsToTrace w e None v = subst (λ (a : Option Answer). AddsToTrace w e a v) none (events_add_to_the_trace w e choice) in
    let le : moment ≤ moment_of moment e = omega (arith, at_moment moment e n is) in
    record {
      adds = subst (λ (printed : List ℕ). Adds w v printed) (no_line n) (step_adds w v e choice n None (ap (node_in w.sent) is) none traced);
      clocks = subst (λ (to : ℕ). AreClocksKept v.observer to) (at_moment moment e n is) (clocks_kept w e choice moment le kept);
    }

all_quietly : (w : WorldState) (steps : List (Event × Choice)) (moment : ℕ) → AreRestarts moment (map (λ (s : Event × Choice). s.0) steps) → answers_of w steps ≡ [] → AreClocksKept w.observer moment
    → GoesQuietly w (after_events w steps) moment
all_quietly w [] moment are none kept = record { adds = adds_nothing w; clocks = kept }
all_quietly w (s ∷ rest) moment are none kept =
    let here : Happened = happens w s.0 s.1 in
    let quiet = none_first here.out.answer (answers_of here.world rest) none in
    let first : GoesQuietly w here.world moment = one_quietly w s.0 s.1 moment are.0.0 are.0.1 quiet.0 kept in
    let last : GoesQuietly here.world (after_events here.world rest) moment = all_quietly here.world rest moment are.1 quiet.1 first.clocks in
    record { adds = adds_both w here.world (after_events here.world rest) [] [] first.adds last.adds; clocks = last.clocks }

pub restarts_go_quietly : (w v : WorldState) (servers moment : ℕ) → WorldRuns w (restart_events servers moment) [] v → AreClocksKept w.observer moment → Adds w v [] × AreClocksKept v.observer moment
restarts_go_quietly w v servers moment runs kept =
    let are : AreRestarts moment (map (λ (s : Event × Choice). s.0) runs.steps) = subst (λ (events : List Event). AreRestarts moment events) (sym runs.events_are) (of_all servers moment) in
    let all : GoesQuietly w (after_events w runs.steps) moment = all_quietly w runs.steps moment are runs.answers_are kept in
    (subst (λ (u : WorldState). Adds w u []) runs.leads all.adds, subst (λ (u : WorldState). AreClocksKept u.observer moment) runs.leads all.clocks)
