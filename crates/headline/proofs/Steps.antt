-- A step of the master: its names beside the machine by names alone, and the whole machine beside its log.
use Rattle.std.proofs.Common.{◌≡◌, ℕ, ◌+◌, ◌≤◌, Bool, true, max, List, [], refl, sym, ap, subst, ◌∙◌, arith}
use Rattle.std.specs.Prelude.{nat_lt, filter, IsTrue}
use Rattle.std.specs.List.{AllByRecursion}
use Rattle.std.proofs.lemmas.Bool.{ltb-true, lt-ltb}
use Rattle.std.proofs.Math.Nat.{le-max_left, le-max_right, max-le}
use Rattle.gfs_types.specs.declared.config.Config.{Config}
use Rattle.messages.specs.declared.event.Event.{Event}
use Rattle.messages.specs.declared.event.NodeInput.{NodeInput}
use Rattle.messages.specs.declared.event.NodeInput.TheVariants as input
use Rattle.messages.specs.declared.message.Body.{Body}
use Rattle.messages.specs.declared.message.Body.TheVariants as body
use Rattle.messages.specs.declared.message.Message.{Message}
use Rattle.relaxed_file.specs.Machine.{Machine}
use Rattle.relaxed_file.specs.Run.{Visible}
use Rattle.protocol.specs.Choice.{Choice}
use Rattle.protocol.specs.Sending.{client_number}
use Rattle.protocol.specs.Logged.{Logged}
use Rattle.protocol.specs.Master.{MasterState, MasterDoing, PendingSnapshot, master_begins}
use Rattle.protocol.specs.MasterStep.{master_at, master_goes}
use Rattle.protocol.specs.World.{WorldState, IsReached}
use Rattle.laws_base.proofs.MasterMoves.{Nothing, NoneEnded, Keeps}
use Rattle.laws_base.proofs.MasterSteps.{goes_keeps}
use Rattle.laws_base.proofs.MasterClock.{master_in_time}
use Rattle.laws_names.specs.Alike.{Requests, HoldsLocks}
use Rattle.laws_names.specs.Followed.{IsTold, IsTimely}
use Rattle.laws_names.specs.FollowedSteps.{IsAtStep, IsOfOpenCall, IsInputOfOpenCall}
use Rattle.laws_names.proofs.OpenRequestsLemmas.{old_or_open_names_are_requests}
use Rattle.laws_names.specs.Beside.{lasts, lasting, IsKnown, IsNamesBeside}
use Rattle.laws_names.proofs.BesideClientsBeside.{all_fewer, relocked, settings_of, passed_trace}
use Rattle.relaxed_file.specs.Run.{LeadsTo}
use Rattle.protocol.specs.World.{happens}
use Rattle.laws_names.specs.Beside.{WasSent}
use Rattle.laws_names.specs.NameTrails.{log_read, IsBesideLog}
use Rattle.laws_names.proofs.FollowedStepsReached.{steps_go_by_records}
use Rattle.laws_names.proofs.Worlds.{beside_reached}
use Rattle.laws_base.proofs.OrderNumbers.{AllStops}
use Rattle.laws_machine.specs.ChunksAlike.{ChunkSides}
use Rattle.laws_machine.specs.MasterSteps.{HaveSameFiles}
use Rattle.laws_machine.specs.WholeSteps.{AreAskedFor}
use Rattle.laws_machine.specs.MastersEvents.{AreCopiesOver}
use Rattle.laws_machine.specs.Rounds.{IsEnded}
use Rattle.laws_machine.specs.WholeWorlds.{IsBeside}
use Rattle.laws_machine.proofs.EndedRounds.{ended_before}
use Rattle.laws_machine.proofs.RecordDues.{steps_log_what_is_due}
use Rattle.laws_machine.proofs.WholeLogs.{states_have_their_logs_files}
use Rattle.laws_machine.proofs.WholeSteps.{all_numbered, master_steps_are_taken}
use Rattle.laws_machine.specs.MasterSteps.{WholeTrail}
use Rattle.laws_names.specs.Followed.{AreKeptOn}
use Rattle.laws_names.specs.Followed as followed
use Rattle.laws_names.specs.FollowedSteps.{ComesTo}
use Rattle.headline.proofs.Arrivals.{passes, here, whole_here}
use Rattle.headline.proofs.Moves.{Moves, moves_nowhere, to_log}

-- the master stays up in its step
up_keeps : Keeps ⊥ Nothing NoneEnded (λ c. c.up ≡ true)
up_keeps =
    record {
      sound = λ asks. absurd asks;
      tells = λ c receiver b quiet h. h;
      orders = λ c server b is plain h. h;
      revokes = λ c handle row is h. h;
      grants = λ c handle version until primary members told due names from idle h. h;
      appends = λ c r due plain names h. h;
      checkpoint = λ c tree h. h;
      less = λ c handles copied h. h;
      ends = λ c handle row is word h. h;
      extends = λ c handle until row is left later from h. h;
    }

pub still_up : (m : MasterState) (moment : ℕ) (i : NodeInput) (refused : List Bool) → IsTrue m.up → (master_goes m moment i refused).master.up ≡ true
still_up m moment i refused up = goes_keeps (λ c. c.up ≡ true) up_keeps m moment i refused up

module _ (config : Config) (servers clients : ℕ) (w : WorldState) (r : IsReached config servers clients w) (kept : IsTrue w.observer.are_clocks_kept) (e : Event) (choice : Choice) (clocks : IsTrue (happens w e choice).world.observer.are_clocks_kept)
    (k : ChunkSides) (h : IsBeside config w w.master.snapshots k) (is : k.log ≡ w.master.logged) (up : IsTrue w.master.up) (moment : ℕ) (timely : max w.observer.greatest moment ≤ moment + w.config.skew_ms)
    (i : NodeInput) (heard : (x : Message) → i ≡ input.Deliver x → WasSent w.sent x) (copies : AreCopiesOver w)
  where
    abbrev ss : List PendingSnapshot
    ss = w.master.snapshots

    abbrev trace : List Visible
    trace = passed_trace w.observer.greatest moment w.observer.trace

    abbrev greatest : ℕ
    greatest = max w.observer.greatest moment

    abbrev start : ChunkSides
    start = here config servers clients w r e choice clocks ss k h moment

    abbrev n : Machine
    n = (passes config servers clients w r e choice clocks ss k h moment).names

    abbrev requests : Requests
    requests = h.requests

    abbrev d : MasterDoing
    d = master_goes w.master moment i choice.refused

    pub named : IsNamesBeside config trace greatest w.sent w.master.logged ss n requests
    named = subst (λ (l : Logged). IsNamesBeside config trace greatest w.sent l ss n requests) is (passes config servers clients w r e choice clocks ss k h moment).named

    pub same_config : w.config ≡ config
    same_config = (beside_reached config servers clients w r).0

    pub same_settings : n.config ≡ config
    same_settings = settings_of config trace greatest w.sent w.master.logged ss n requests named

    skew_is : w.config.skew_ms ≡ config.skew_ms
    skew_is = ap (λ (x : Config). x.skew_ms) same_config

    in_time : IsTimely n (max w.master.now moment)
    in_time =
        let clock = named.clock in
        let skew = ap (λ (x : Config). x.skew_ms) same_settings in
        let low = le-max_right w.master.now moment in
        let reached = le-max_right w.observer.greatest moment in
        let before = le-max_left w.observer.greatest moment in
        let early = (master_in_time config servers clients w r).1 in
        let most : max w.master.now moment ≤ greatest = max-le (omega (arith, before, early)) reached in
        let skews = skew_is in
        let bound = timely in
        (omega (arith, clock, skew, low, bound, skews), omega (arith, clock, most))

    live : AllByRecursion (HoldsLocks n requests) (filter (λ s. nat_lt (max w.master.now moment) s.deadline) w.master.snapshots)
    live =
        let low = le-max_right w.master.now moment in
        let skews = skew_is in
        let bound = timely in
        all_fewer (HoldsLocks n requests) (λ s. nat_lt (max w.master.now moment) s.deadline) (lasts config.skew_ms greatest) w.master.snapshots
        (λ s is_live. let early = ltb-true (max w.master.now moment) s.deadline is_live in lt-ltb greatest (s.deadline + config.skew_ms) (omega (arith, early, low, bound, skews))) (named.alike).locks

    at_step : IsAtStep config (master_at w.master moment) n requests
    at_step =
        record {
          run = named.run;
          settings = same_settings ∙ sym same_config ∙ sym (master_in_time config servers clients w r).0;
          timely = in_time;
          alike = relocked w.master.logged (lasting config.skew_ms greatest w.master.snapshots) (filter (λ s. nat_lt (max w.master.now moment) s.deadline) w.master.snapshots) n requests named.alike live;
        }

    abbrev begun : MasterDoing
    begun = master_begins (master_at w.master moment) choice.refused

    body_open : (x : Message) (b : Body) → IsKnown w.master.logged.kept n requests (client_number x.sender) b → IsOfOpenCall begun n requests x b
    body_open x (body.Name number deadline c) g = old_or_open_names_are_requests begun n requests (client_number x.sender) number deadline.0 c in_time g.0 g.1
    body_open x (body.Look number c) g = g
    body_open x other g = tt

    input_open : (j : NodeInput) → i ≡ j → IsInputOfOpenCall begun n requests j
    input_open (input.Deliver x) same = body_open x x.body (named.known x (heard x same))
    input_open input.Tick same = tt

    -- beside the log on the disk
    same_files : HaveSameFiles start.log (log_read w.master.disk)
    same_files = subst (λ (l : Logged). HaveSameFiles l (log_read w.master.disk)) (sym is) ((states_have_their_logs_files config servers clients w r).0 up).0

    abbrev pub on_disk : ChunkSides
    on_disk = record start { log = log_read w.master.disk }

    abbrev E : ℕ → Type 0
    E = IsEnded w (happens w e choice).world

    pub to_disk : Moves E start on_disk n
    to_disk =
        to_log E start start n (log_read w.master.disk) (moves_nowhere E start n (whole_here config servers clients w r e choice clocks ss k h moment)) same_files
        (λ handle copy. ended_before config servers clients w r e choice clocks handle (copies [] handle copy))

    -- the step is followed
    pub record IsTaken : Type 0 where
      pub first : IsBesideLog requests n w.master.disk w.master.disk n
      pub later : Machine
      pub comes : ComesTo n later requests
      pub beside : followed.IsBeside d later requests
      pub kept_on : AreKeptOn requests w.master.logged.kept d.master.logged.kept
      pub trail : WholeTrail requests n w.master.disk w.master.disk on_disk d.changes later
      pub numbered : AllStops (λ l. (log_read w.master.disk).next_handle ≤ (log_read l).next_handle) w.master.disk d.changes

    pub step_taken : ((m : Machine) → LeadsTo k.machine m → AreAskedFor m w.observer.orders w.master.disk d.changes) → IsTaken
    step_taken asked =
        let orders = h.chunks.orders in
        let f = master_steps_are_taken config servers clients w r kept up moment i choice.refused n requests on_disk at_step (input_open i refl) refl orders to_disk.comes.whole
        (subst (λ x. AreAskedFor start.machine x w.master.disk d.changes) (sym orders) (asked start.machine (passes config servers clients w r e choice clocks ss k h moment).leads)) in
        let by_records = steps_go_by_records config servers clients w r up moment i choice.refused n requests at_step (input_open i refl) in
        record {
          first = by_records.4;
          later = f.0;
          comes = f.1;
          beside = f.2;
          kept_on = f.3;
          trail = f.4;
          numbered = all_numbered requests n w.master.disk by_records.0 d.changes w.master.disk n (log_read w.master.disk).next_handle (omega arith) by_records.5 (steps_log_what_is_due config servers clients w r kept up moment i choice.refused);
        }
