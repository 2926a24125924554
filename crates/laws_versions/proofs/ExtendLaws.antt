-- Why each Extend was sent, by the step of the master in which it was.
use Rattle.std.proofs.Common.{◌≡◌, ℕ, suc, ◌≤◌, ◌-◌, true, false, List, [], ◌∷◌, ◌++◌, length, Option, Some, None, refl, sym, ap, subst, ◌∙◌, inl, inr, arith}
use Rattle.std.specs.Prelude.{◌==◌, ◌&&◌}
use Rattle.std.proofs.lemmas.Bool.{and_from}
use Rattle.gfs_types.specs.declared.config.Config.{Config}
use Rattle.gfs_types.specs.declared.ids.Node.{Node}
use Rattle.gfs_types.specs.declared.ids.Node.TheVariants as node
use Rattle.messages.specs.declared.event.Event.{Event}
use Rattle.messages.specs.declared.event.Event.TheVariants as event
use Rattle.messages.specs.declared.event.NodeInput.{NodeInput}
use Rattle.messages.specs.declared.event.NodeInput.TheVariants as input
use Rattle.messages.specs.declared.message.Message.{Message}
use Rattle.messages.specs.declared.message.Body.{Body}
use Rattle.messages.specs.declared.message.Body.TheVariants as body
use Rattle.messages.specs.declared.message.ReplicaLine.{ReplicaLine}
use Rattle.messages.specs.declared.message.LeaseLine.{LeaseLine}
use Rattle.protocol.specs.Tables.{element_at}
use Rattle.protocol.specs.Sending.{the_server, server_number}
use Rattle.protocol.specs.Choice.{Choice, Ending, Goes, Lost, Stops}
use Rattle.protocol.specs.Seen.{Taken}
use Rattle.protocol.specs.Logged.{Logged}
use Rattle.protocol.specs.Master.{MasterState, MasterDoing}
use Rattle.protocol.specs.MasterStep.{master_step, master_restart, is_within_limits, found_log, started_master, opening, has_opened, opens_as}
use Rattle.protocol.specs.ServerStep.{server_step, server_restart}
use Rattle.protocol.specs.ClientStep.{client_step, client_call}
use Rattle.protocol.specs.World.{WorldState, new_world, stamped, after_events, IsReached}
use Rattle.laws_base.specs.Laws.{tells_end}
use Rattle.laws_base.proofs.Steps.{on_cond, none_some, same_some}
use Rattle.laws_base.proofs.Entries.{same_number}
use Rattle.laws_base.proofs.Words.{true_false}
use Rattle.laws_base.proofs.MembersRecorded.{place_below, all_at}
use Rattle.laws_base.proofs.MessagesSent.{IsSent, IsSameMessage}
use Rattle.laws_base.proofs.RisingOrders.{element_numbered}
use Rattle.laws_base.proofs.ClientMoves.{client_quiet, call_quiet}
use Rattle.laws_base.proofs.EndsToldByMaster.{TellsNoEnd, TellNoEnds, quiet_ends, server_tells, restarts_tell}
use Rattle.laws_base.proofs.GrantedIssued.{granted_is_at_most_issued}
use Rattle.laws_base.proofs.Events.{IsGiven, HoldsAfter, holds_after}
use Rattle.laws_base.proofs.RequestsOnce.{later_cases}
use Rattle.laws_base.proofs.Histories.{IsGrown, steps_grown, SentIn, sent_in, after_both}
use Rattle.laws_versions.specs.AnsweredOrders.{IsLeaseReported}
use Rattle.laws_versions.proofs.SaidByServers.{is_other}
use Rattle.laws_versions.proofs.AnsweredOrders.{placed_later, sender_is, reported_leases_were_granted}
use Rattle.laws_versions.specs.ExtendedLeases.{version_extended, ExtendsAnswerReports, ExtendsFollowTheirGrants}
use Rattle.laws_versions.proofs.MasterCauses.{is_caused, Attempts, Causes, step_caused}

-- a master that opens says nothing
opens_silent : (m started : MasterState) (d : MasterDoing) (choice : Choice) (e : Ending) → (opens_as m started d choice e).out.sent ≡ []
opens_silent m started d choice Goes = on_cond (λ (t : Taken MasterState). t.out.sent ≡ []) (has_opened started d && is_within_limits d.master) _ _ (λ _. refl) (λ _. refl)
opens_silent m started d choice Lost = refl
opens_silent m started d choice (Stops made) = refl

pub restart_silent : (m : MasterState) (moment : ℕ) (choice : Choice) → (master_restart m moment choice).out.sent ≡ []
restart_silent m moment choice =
    let started : MasterState = started_master m.config m.server_count (found_log m choice) moment in
    opens_silent m started (opening started) choice choice.ending

-- what is new among the messages
pub new_one : (sent ms : List Message) (k place : ℕ) (m : Message) → length sent ≤ place → element_at (sent ++ stamped k ms) place ≡ Some m → (x : Message) × IsSent ms x × IsSameMessage x m
new_one sent ms k place m from at =
    elim (later_cases sent k ms place m at) [
      | inl before ↦ absurd (let below = place_below sent place m before in omega (arith, below, from))
      | inr new ↦ new
    ]

pub none_before : {A : Type 0} (sent : List Message) (place : ℕ) (m : Message) → length sent ≤ place → element_at sent place ≡ Some m → A
none_before sent place m from at = absurd (let below = place_below sent place m at in omega (arith, below, from))

-- what the master takes was sent
pub came_in : (w : WorldState) (e : Event) (to : Node) (moment : ℕ) (i : NodeInput) → IsGiven w e to moment i → (m : Message) → i ≡ input.Deliver m → IsSent w.sent m
came_in w (event.Deliver number now) to moment (input.Deliver x) is m same = subst (λ (y : Message). IsSent w.sent y) (same_message x m same) (number - 1, element_numbered w.sent number x is.0)
  where
    message_in : NodeInput → Option Message
    message_in (input.Deliver y) = Some y
    message_in input.Tick = None

    same_message : (y z : Message) → input.Deliver y ≡ input.Deliver z → y ≡ z
    same_message y z h = same_some y z (ap message_in h)
came_in w (event.Call c asked now) to moment (input.Deliver x) is m same = absurd is
came_in w (event.Tick at now) to moment (input.Deliver x) is m same = absurd is
came_in w (event.Restart n now) to moment (input.Deliver x) is m same = absurd is
came_in w (event.Rot n handle place byte) to moment (input.Deliver x) is m same = absurd is
came_in w (event.Fuse n count torn) to moment (input.Deliver x) is m same = absurd is
came_in w e to moment input.Tick is m same = absurd (cc)

-- an Extend of a step answers a line of a Report

record IsLeaseAsked (sent : List Message) (server : Node) (handle version : ℕ) : Type 0 where
  place : ℕ
  report : Message
  at : element_at sent place ≡ Some report
  server_is : server ≡ the_server (server_number report.sender)
  replicas : List ReplicaLine
  leases : List LeaseLine
  is_report : report.body ≡ body.Report replicas leases
  reported : IsLeaseReported leases handle version

abbrev IsDue : List Message → Message → Type 0
IsDue sent x = (handle version : ℕ) → version_extended x.body ≡ Some (handle, version) → IsLeaseAsked sent x.receiver handle version

no_extend : (b : Body) → is_caused b ≡ false → version_extended b ≡ None
no_extend (body.Extend handle version end_moment) none = true_false none
no_extend other none = refl

master_due : (sent : List Message) (l : Logged) (tried : Attempts) (i : NodeInput) → ((m : Message) → i ≡ input.Deliver m → IsSent sent m) → Causes l tried i (IsDue sent)
master_due sent l tried i came =
    record {
      plain = λ receiver b none handle version is. none_some (handle, version) (sym (no_extend b none) ∙ is);
      extends = λ server line until due handle version is.
          let same = same_some (line.handle.0, line.version.0) (handle, version) is in
          let there = came due.report due.taken in
          record {
            place = there.0;
            report = due.report;
            at = there.1;
            server_is = ap the_server due.sender;
            replicas = due.replicas;
            leases = due.leases;
            is_report = due.is;
            reported = (due.place, line, due.at, ap (λ (p : ℕ × ℕ). p.0) same, ap (λ (p : ℕ × ℕ). p.1) same);
          };
      grants = λ server order q v until chunk members told has handle version is. none_some (handle, version) is;
      creates = λ server order q v ask raised handle version is. none_some (handle, version) is;
      raises = λ server order q v base ask raised handle version is. none_some (handle, version) is;
      copies = λ server order q v copy copy_version ask new handle version is. none_some (handle, version) is;
    }

-- who sends no Extend

extend_tells : (b : Body) (handle version : ℕ) → version_extended b ≡ Some (handle, version) → (until : ℕ) × (tells_end handle version until b ≡ true)
extend_tells (body.Extend q v end_moment) handle version is =
    let same = same_some (q.0, v.0) (handle, version) is in (
      end_moment.0,
      subst (λ (p : ℕ × ℕ). tells_end p.0 p.1 end_moment.0 (body.Extend q v end_moment) ≡ true) same
          (and_from ((q.0 == q.0) && (v.0 == v.0)) (end_moment.0 == end_moment.0) (and_from (q.0 == q.0) (v.0 == v.0) (same_number q.0) (same_number v.0)) (same_number end_moment.0)),
    )
extend_tells other handle version is = none_some (handle, version) is

none_new : {A : Type 0} (sent ms : List Message) (k place : ℕ) (m : Message) → TellNoEnds ms → length sent ≤ place → element_at (sent ++ stamped k ms) place ≡ Some m → (handle version : ℕ) → version_extended m.body ≡ Some (handle, version) → A
none_new sent ms k place m none from at handle version is =
    let new = new_one sent ms k place m from at in
    let tells = extend_tells (new.0).body handle version (ap version_extended (new.2).2 ∙ is) in
    true_false (sym tells.1 ∙ all_at (λ (x : Message). TellsNoEnd x.body) ms (new.1).0 new.0 none (new.1).1 handle version tells.0)

-- worlds

abbrev AreDueNow : WorldState → WorldState → Type 0
AreDueNow u v = (place : ℕ) (m : Message) → length u.sent ≤ place → element_at v.sent place ≡ Some m → (handle version : ℕ) → version_extended m.body ≡ Some (handle, version) → IsLeaseAsked u.sent m.receiver handle version

each_due : (config : Config) (servers clients : ℕ) (u : WorldState) → IsReached config servers clients u → HoldsAfter u (λ e x. AreDueNow u x.world)
each_due config servers clients u r =
    let k : ℕ = suc (length u.sent) in
    record {
      nothing = λ e place m from at handle version is. none_before u.sent place m from at;
      masters = λ e moment i choice given up place m from at handle version is.
          let new = new_one u.sent (master_step u.master moment i choice).out.sent k place m from at in
          let all = step_caused u.master moment i choice (IsDue u.sent) (granted_is_at_most_issued config servers clients u r) (master_due u.sent u.master.logged u.master.attempts i (came_in u e node.Master moment i given)) in
          subst (λ (n : Node). IsLeaseAsked u.sent n handle version) (new.2).1 (all_at (IsDue u.sent) (master_step u.master moment i choice).out.sent (new.1).0 new.0 all (new.1).1 handle version (ap version_extended (new.2).2 ∙ is));
      opens = λ e moment choice place m from at handle version is.
          none_new u.sent (master_restart u.master moment choice).out.sent k place m (subst (λ (ms : List Message). TellNoEnds ms) (sym (restart_silent u.master moment choice)) tt) from at handle version is;
      serves = λ e index moment s i choice there given up place m from at handle version is. none_new u.sent (server_step s moment i choice).out.sent k place m (server_tells s moment i choice) from at handle version is;
      restarts = λ e index moment s choice there place m from at handle version is. none_new u.sent (server_restart s moment choice).out.sent k place m (restarts_tell s moment choice choice.ending) from at handle version is;
      steps = λ e index moment s i choice there given up place m from at handle version is.
          none_new u.sent (client_step s moment i choice).out.sent k place m (quiet_ends (client_step s moment i choice).out.sent (client_quiet s moment i choice)) from at handle version is;
      calls = λ e index moment s c choice there may place m from at handle version is.
          none_new u.sent (client_call s moment c choice).out.sent k place m (quiet_ends (client_call s moment c choice).out.sent (call_quiet s moment c choice)) from at handle version is;
      rots = λ e index q s x at_place byte ending is_kept there held up place m from at handle version is. none_before u.sent place m from at;
    }

-- the step of the list in which an Extend was sent
record WasDue (config : Config) (servers clients : ℕ) (w : WorldState) (place : ℕ) (server : Node) (handle version : ℕ) : Type 0 where
  before : WorldState
  reached : IsReached config servers clients before
  unsent : length before.sent ≤ place
  grown : IsGrown before.sent w.sent
  asked : IsLeaseAsked before.sent server handle version

was_due : (config : Config) (servers clients : ℕ) (w : WorldState) → IsReached config servers clients w → (place : ℕ) (m : Message) → element_at w.sent place ≡ Some m → (handle version : ℕ) → version_extended m.body ≡ Some (handle, version)
    → WasDue config servers clients w place m.receiver handle version
was_due config servers clients w r place m at handle version is =
    record {
      before = u;
      reached = (h.before, refl);
      unsent = h.unsent;
      grown = subst (λ (v : WorldState). IsGrown u.sent v.sent) rest (steps_grown u (h.step ∷ h.after));
      asked = holds_after u (λ e x. AreDueNow u x.world) (each_due config servers clients u (h.before, refl)) h.step.0 h.step.1 place m h.unsent h.sent_is handle version is;
    }
  where
    start : WorldState
    start = new_world config servers clients

    h : SentIn start r.0 place m
    h = sent_in start r.0 place m (omega arith) (ap (λ (v : WorldState). element_at v.sent place) r.1 ∙ at)

    u : WorldState
    u = after_events start h.before

    rest : after_events u (h.step ∷ h.after) ≡ w
    rest = sym (ap (λ (steps : List (Event × Choice)). after_events start steps) h.steps_are ∙ after_both start h.before (h.step ∷ h.after)) ∙ r.1

-- a Report is a server's
reporter_is : (config : Config) (servers clients : ℕ) (w : WorldState) → IsReached config servers clients w → (place : ℕ) (m : Message) → element_at w.sent place ≡ Some m → (replicas : List ReplicaLine) (leases : List LeaseLine) → m.body ≡ body.Report replicas leases
    → m.sender ≡ the_server (server_number m.sender)
reporter_is config servers clients w r place m at replicas leases is =
    let sender = sender_is config servers clients w r place m at (ap is_other is) in
    sender.1 ∙ sym (ap (λ (n : Node). the_server (server_number n)) sender.1)

pub extends_answer_reports : ExtendsAnswerReports
extends_answer_reports config servers clients w r place m at handle version is =
    let h = was_due config servers clients w r place m at handle version is in
    let a = h.asked in
    let below = place_below h.before.sent a.place a.report a.at in
    let from = h.unsent in
    record {
      place = a.place;
      before = omega (arith, below, from);
      report = a.report;
      at = placed_later h.before.sent w.sent a.place a.report h.grown a.at;
      sender_is = reporter_is config servers clients h.before h.reached a.place a.report a.at a.replicas a.leases a.is_report ∙ sym a.server_is;
      replicas = a.replicas;
      leases = a.leases;
      is_report = a.is_report;
      reported = a.reported;
    }

pub extends_follow_their_grants : ExtendsFollowTheirGrants
extends_follow_their_grants config servers clients w r place m at handle version is =
    let h = extends_answer_reports config servers clients w r place m at handle version is in
    let g = reported_leases_were_granted config servers clients w r h.place h.report h.at h.replicas h.leases h.is_report handle version h.reported in
    let early = g.1 in
    let late = h.before in
    (g.0, omega (arith, early, late), g.2, g.3, g.4 ∙ h.sender_is, g.5)
