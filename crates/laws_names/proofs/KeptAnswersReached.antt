-- In each reached world what the master keeps of name calls was asked for.
use Rattle.std.proofs.Common.{◌≡◌, ℕ, suc, List, [], ◌∷◌, ◌++◌, take, drop, refl, sym, subst, ◌∙◌}
use Rattle.std.specs.Prelude.{◌&&◌, max, nat_lt, filter, Some, IsTrue}
use Rattle.std.specs.Ordering.{nat_cmp}
use Rattle.std.proofs.lemmas.Bool.{true≢false}
use Rattle.std.specs.FinMap as table
use Rattle.gfs_types.specs.declared.config.Config.{Config}
use Rattle.messages.specs.declared.event.NodeInput.{NodeInput}
use Rattle.messages.specs.declared.event.NodeInput.TheVariants as input
use Rattle.messages.specs.declared.message.Body.{Body}
use Rattle.messages.specs.declared.message.Body.TheVariants as body
use Rattle.messages.specs.declared.message.Message.{Message}
use Rattle.protocol.specs.Tables.{element_at}
use Rattle.protocol.specs.Choice.{Choice, Ending, Goes, Lost, Stops}
use Rattle.protocol.specs.Seen.{Taken, no_step}
use Rattle.protocol.specs.Sending.{client_number}
use Rattle.protocol.specs.Logged.{LogDisk, LogChange, log_changed_by_all}
use Rattle.protocol.specs.Master.{MasterState, MasterDoing, PendingSnapshot, stopped_master, master_begins}
use Rattle.protocol.specs.MasterStep.{master_at, master_goes, master_ends, master_bounded, master_step, master_restart, is_within_limits, may_end, found_log, started_master, opening, has_opened, opens_as, new_master, first_log}
use Rattle.protocol.specs.World.{WorldState, IsReached, stamped}
use Rattle.laws_base.proofs.Steps.{on_cond, none_some}
use Rattle.laws_base.proofs.OrderNumbers.{AllFound, found_same, found_stopped}
use Rattle.laws_base.proofs.GrantedIssued.{IsIssued, step_issued, opens_issued, new_issued}
use Rattle.laws_base.proofs.MasterMoves.{NoneEnded, core_of}
use Rattle.laws_base.proofs.MasterSteps.{no_input, goes_named}
use Rattle.laws_base.proofs.MembersRecorded.{kept_place}
use Rattle.laws_base.proofs.CountsLogged.{IsFoundCounts, IsCountedLog}
use Rattle.laws_base.proofs.CountsKept.{counts_kept}
use Rattle.laws_base.proofs.NamesReached.{IsNaming, naming_keeps, opening_naming, IsUpToLog, IsLogged, step_logged, opens_logged, new_logged}
use Rattle.laws_base.proofs.SentReached.{IsInputSent, sent_reached}
use Rattle.laws_names.specs.KeptAnswers.{IsNameOf, WasAskedFor, KeptAnswersWereAskedFor, WaitingSnapshotsWereAskedFor}
use Rattle.laws_names.proofs.Asked.{AreKept, AreWaiting, IsLogAsked, HasLog, IsAsking, IsInputAsking, At, log_here, goes_at, opens_at}

more_asked : (sent ms : List Message) (client number : ℕ) → WasAskedFor sent client number → WasAskedFor (sent ++ ms) client number
more_asked sent ms client number h = (h.0, h.1, kept_place sent ms h.0 h.1 h.2, h.3, h.4)

more_waiting : (sent ms : List Message) (ss : List PendingSnapshot) → AreWaiting (WasAskedFor sent) ss → AreWaiting (WasAskedFor (sent ++ ms)) ss
more_waiting sent ms [] h = tt
more_waiting sent ms (s ∷ ss) h = (more_asked sent ms s.client s.number h.0, more_waiting sent ms ss h.1)

-- what the master keeps, and what each log says that a restart may find
record WasAsked (sent : List Message) (m : MasterState) : Type 0 where
  found : AllFound (IsLogAsked (WasAskedFor sent)) m.disk m.under_way
  up : IsTrue m.up → AreKept (WasAskedFor sent) m.logged.kept × AreWaiting (WasAskedFor sent) m.snapshots

more_sent : (sent ms : List Message) (m : MasterState) → WasAsked sent m → WasAsked (sent ++ ms) m
more_sent sent ms m h =
    record {
      found = λ decided client x is. more_asked sent ms client x.number (h.found decided client x is);
      up = λ up. (λ client x is. more_asked sent ms client x.number ((h.up up).0 client x is), more_waiting sent ms m.snapshots (h.up up).1);
    }

stopped : (sent : List Message) (m : MasterState) (disk : LogDisk) (under_way : List LogChange) → AllFound (IsLogAsked (WasAskedFor sent)) disk under_way → WasAsked sent (stopped_master m disk under_way)
stopped sent m disk under_way h = record { found = h; up = λ up. absurd (true≢false (sym up)) }

running : (sent : List Message) (start : LogDisk) (d : MasterDoing) → d.master.under_way ≡ [] → At (WasAskedFor sent) start d → HasLog (WasAskedFor sent) start d.master.logged d.master.disk d.changes → WasAsked sent d.master
running sent start d none h log =
    record {
      found = subst (λ (xs : List LogChange). AllFound (IsLogAsked (WasAskedFor sent)) d.master.disk xs) (sym none)
          (found_same (IsLogAsked (WasAskedFor sent)) d.master.disk (log_here (WasAskedFor sent) start d.master.logged d.master.disk d.changes log));
      up = λ _. (h.kept, h.waits);
    }

live_waiting : (sent : List Message) (now : ℕ) (ss : List PendingSnapshot) → AreWaiting (WasAskedFor sent) ss → AreWaiting (WasAskedFor sent) (filter (λ s. nat_lt now s.deadline) ss)
live_waiting sent now [] h = tt
live_waiting sent now (s ∷ ss) h =
    on_cond (AreWaiting (WasAskedFor sent)) (nat_lt now s.deadline) (s ∷ filter (λ t. nat_lt now t.deadline) ss) (filter (λ t. nat_lt now t.deadline) ss) (λ _. (h.0, live_waiting sent now ss h.1)) (λ _. live_waiting sent now ss h.1)

-- a message that was sent
body_asks : (sent : List Message) (start : LogDisk) (x : Message) (place : ℕ) → element_at sent place ≡ Some x → (b : Body) → x.body ≡ b → IsAsking (WasAskedFor sent) start (client_number x.sender) b
body_asks sent start x place at (body.Name number deadline c) is = (place, x, at, refl, subst (λ (b : Body). IsNameOf number b) (sym is) refl)
body_asks sent start x place at other is = tt

input_asks : (sent : List Message) (start : LogDisk) (i : NodeInput) → IsInputSent sent i → IsInputAsking (WasAskedFor sent) start i
input_asks sent start (input.Deliver x) there = body_asks sent start x there.0 there.1 x.body refl
input_asks sent start input.Tick there = tt

ends_asked : (sent : List Message) (m : MasterState) (d : MasterDoing) (choice : Choice) (e : Ending) → WasAsked sent m → d.master.under_way ≡ [] → At (WasAskedFor sent) m.disk d → HasLog (WasAskedFor sent) m.disk d.master.logged d.master.disk d.changes
    → WasAsked sent (master_ends m d choice e).state
ends_asked sent m d choice Goes h none end log = running sent m.disk d none end log
ends_asked sent m d choice Lost h none end log = stopped sent m m.disk [] (found_same (IsLogAsked (WasAskedFor sent)) m.disk (h.found []))
ends_asked sent m d choice (Stops made) h none end log =
    stopped sent m (log_changed_by_all m.disk (take made d.changes)) (take 1 (drop made d.changes)) (found_stopped (IsLogAsked (WasAskedFor sent)) m.disk d.changes made log.stops)

abbrev HasNames : MasterState → Type 0
HasNames m = IsLogged IsFoundCounts IsCountedLog counts_kept m

step_asked : (sent : List Message) (m : MasterState) (moment : ℕ) (i : NodeInput) (choice : Choice) → IsInputSent sent i → HasNames m → WasAsked sent m → WasAsked sent (master_step m moment i choice).state
step_asked sent m moment i choice there logged h =
    let d : MasterDoing = master_goes m moment i choice.refused in
    let good : Taken MasterState → Type 0 = λ t. WasAsked sent t.state in
    on_cond good m.up (master_bounded m i d choice) (no_step m)
    (λ up. on_cond good (may_end m i d choice.ending) (master_ends m d choice choice.ending) (no_step m)
    (λ _.
    let u : IsUpToLog IsFoundCounts IsCountedLog counts_kept m = logged.up up in
    let naming = (goes_named NoneEnded (IsNaming IsFoundCounts IsCountedLog counts_kept m.disk) (naming_keeps IsFoundCounts IsCountedLog counts_kept m.disk NoneEnded) m moment i choice.refused (no_input i) u.bound u.names u.ready
    (record { none = u.idle; disk = refl; same = u.same; tied = u.tied; stops = logged.found [] })).0 in
    let begun : At (WasAskedFor sent) m.disk (master_begins (master_at m moment) choice.refused) = record {
      kept = (h.up up).0;
      waits = live_waiting sent (max m.now moment) m.snapshots (h.up up).1;
      log = λ _. record { disk = refl; same = u.same; stops = h.found [] };
    } in
    let end : At (WasAskedFor sent) m.disk d =
    goes_at (WasAskedFor sent) m.disk (master_begins (master_at m moment) choice.refused) i (λ handle c is. u.tied.base.here.copied handle c is) (input_asks sent m.disk i there) begun in
    ends_asked sent m d choice choice.ending h naming.none end (end.log naming.stops))
    (λ _. h))
    (λ _. h)

opens_asked : (sent : List Message) (old : MasterState) (moment : ℕ) (choice : Choice) (e : Ending) → IsIssued old → HasNames old → WasAsked sent old
    → (let started : MasterState = started_master old.config old.server_count (found_log old choice) moment in WasAsked sent (opens_as old started (opening started) choice e).state)
opens_asked sent old moment choice e issued logged h = by_ending e
  where
    found : LogDisk
    found = found_log old choice

    started : MasterState
    started = started_master old.config old.server_count (found_log old choice) moment

    opened : MasterDoing
    opened = opening (started_master old.config old.server_count (found_log old choice) moment)

    end : At (WasAskedFor sent) (found_log old choice) (opening (started_master old.config old.server_count (found_log old choice) moment))
    end =
        opens_at (WasAskedFor sent) (found_log old choice) (master_begins (started_master old.config old.server_count (found_log old choice) moment) []) (suc (started_master old.config old.server_count (found_log old choice) moment).logged.epoch)
        (record { kept = h.found choice.decided; waits = tt; log = λ _. record { disk = refl; same = refl; stops = h.found choice.decided } })

    naming : IsNaming IsFoundCounts IsCountedLog counts_kept (found_log old choice) (core_of (opening (started_master old.config old.server_count (found_log old choice) moment)))
    naming = (opening_naming IsFoundCounts IsCountedLog counts_kept old.config old.server_count (found_log old choice) moment (logged.found choice.decided) (issued.found choice.decided)).0

    log : HasLog (WasAskedFor sent) found opened.master.logged opened.master.disk opened.changes
    log = end.log naming.stops

    by_ending : (x : Ending) → WasAsked sent (opens_as old started opened choice x).state
    by_ending Lost = stopped sent old old.disk old.under_way h.found
    by_ending (Stops made) =
        stopped sent old (log_changed_by_all found (take made opened.changes)) (take 1 (drop made opened.changes)) (found_stopped (IsLogAsked (WasAskedFor sent)) found opened.changes made log.stops)
    by_ending Goes =
        on_cond (λ (t : Taken MasterState). WasAsked sent t.state) (has_opened started opened && is_within_limits opened.master) _ _ (λ _. running sent found opened naming.none end log)
        (λ _. stopped sent old opened.master.disk [] (found_same (IsLogAsked (WasAskedFor sent)) opened.master.disk (log_here (WasAskedFor sent) found opened.master.logged opened.master.disk opened.changes log)))

new_asked : (config : Config) (servers : ℕ) → WasAsked [] (new_master config servers)
new_asked config servers =
    record {
      found = found_same (IsLogAsked (WasAskedFor [])) first_log (λ client x is. none_some x (sym (table.get-empty nat_cmp client) ∙ is));
      up = λ _. (λ client x is. none_some x (sym (table.get-empty nat_cmp client) ∙ is), tt);
    }

asked_here : (config : Config) (servers clients : ℕ) (w : WorldState) → IsReached config servers clients w → WasAsked w.sent w.master
asked_here config servers clients w r =
    (sent_reached (λ sent m. (IsIssued m × HasNames m) × WasAsked sent m)
    (record {
      new = λ c n. ((new_issued c n, new_logged IsFoundCounts IsCountedLog counts_kept c n), new_asked c n);
      quiet = λ sent ms k m none h. (h.0, more_sent sent (stamped k ms) m h.1);
      steps = λ sent k m moment i choice there h. (
        (step_issued m moment i choice h.0.0, step_logged IsFoundCounts IsCountedLog counts_kept m moment i choice h.0.1),
        more_sent sent (stamped k (master_step m moment i choice).out.sent) (master_step m moment i choice).state (step_asked sent m moment i choice there h.0.1 h.1),
      );
      restarts = λ sent k m moment choice h. (
        (opens_issued m moment choice choice.ending h.0.0, opens_logged IsFoundCounts IsCountedLog counts_kept m moment choice choice.ending h.0.0 h.0.1),
        more_sent sent (stamped k (master_restart m moment choice).out.sent) (master_restart m moment choice).state (opens_asked sent m moment choice choice.ending h.0.0 h.0.1 h.1),
      );
    }) config servers clients w r).1

pub kept_answers_were_asked_for : KeptAnswersWereAskedFor
kept_answers_were_asked_for config servers clients w r =
    let h = asked_here config servers clients w r in
    (λ up. (h.up up).0, λ decided. h.found decided)

pub waiting_snapshots_were_asked_for : WaitingSnapshotsWereAskedFor
waiting_snapshots_were_asked_for config servers clients w r up = ((asked_here config servers clients w r).up up).1
