-- A Drop names a version that is useless as the order is sent: its chunk is gone, or has a newer version granted. It stays so.
use Rattle.std.proofs.Common.{◌≡◌, ◌⊎◌, ℕ, suc, ◌-◌, ◌<◌, ◌++◌, List, [], ◌∷◌, length, Some, None, refl, sym, ap, subst, ◌∙◌, inl, inr}
use Rattle.std.specs.Prelude.{◌&&◌, IsTrue}
use Rattle.gfs_types.specs.declared.config.Config.{Config}
use Rattle.gfs_types.specs.declared.ids.Node.{Node}
use Rattle.gfs_types.specs.declared.ids.Node.TheVariants as node
use Rattle.messages.specs.declared.event.Event.{Event}
use Rattle.messages.specs.declared.event.Event.TheVariants as event
use Rattle.messages.specs.declared.event.NodeInput.{NodeInput}
use Rattle.messages.specs.declared.event.NodeInput.TheVariants as input
use Rattle.messages.specs.declared.message.Body.{Body}
use Rattle.messages.specs.declared.message.Body.TheVariants as body
use Rattle.messages.specs.declared.message.Message.{Message}
use Rattle.messages.specs.declared.message.ReplicaLine.{ReplicaLine}
use Rattle.chunk_table.specs.ChunkTable.{ChunkRow, chunk_of}
use Rattle.protocol.specs.Choice.{Choice, Ending, Goes, Lost, Stops}
use Rattle.protocol.specs.Seen.{Taken}
use Rattle.protocol.specs.Sending.{server_number, order_number}
use Rattle.protocol.specs.Logged.{Logged, replayed}
use Rattle.protocol.specs.Master.{MasterState, MasterDoing}
use Rattle.protocol.specs.MasterStep.{master_step, master_restart, is_within_limits, found_log, started_master, opening, has_opened, opens_as}
use Rattle.protocol.specs.ServerStep.{server_step, server_restart}
use Rattle.protocol.specs.ClientStep.{client_step, client_call}
use Rattle.protocol.specs.World.{WorldState, new_world, stamped, happens, after_events, IsReached}
use Rattle.laws_base.proofs.Steps.{on_cond, none_some}
use Rattle.laws_base.proofs.MembersRecorded.{all_at}
use Rattle.laws_base.proofs.MessagesSent.{IsSent, sent_cases, none_sent, numbered_sent}
use Rattle.laws_base.proofs.ClientMoves.{HasNoOrder, quiet_orders, client_quiet, call_quiet}
use Rattle.laws_base.proofs.SentReached.{without_order, server_quiet, server_restarts_quiet}
use Rattle.laws_base.proofs.RisingOrders.{element_numbered}
use Rattle.laws_base.proofs.RevokedLeases.{IsOfRevoked, revoked_kept}
use Rattle.laws_base.proofs.ScenesReached.{scene_of, scene_reached, goes_on}
use Rattle.laws_base.proofs.LeasesStayOver.{reached_later}
use Rattle.laws_base.proofs.IssuedNumbers.{IsPassed}
use Rattle.laws_versions.proofs.GivenVersions.{given_reached}
use Rattle.laws_base.proofs.Events.{IsGiven, HoldsAfter, holds_after}
use Rattle.laws_versions.specs.ToldVersions.{IsReported, WasOrdered}
use Rattle.laws_versions.proofs.TrueWords.{AreLinesOrdered, IsTrueFrom, IsTrueMessage, report_true}
use Rattle.laws_versions.proofs.ToldVersions.{AreWordsTrue, told_reached}
use Rattle.laws_versions.proofs.ClonedVersions.{sent_of_cloned, clones_shut}
use Rattle.laws_versions.specs.OutdatedVersions.{version_dropped, IsUselessReplica, IsNeverCurrent}
use Rattle.laws_versions.proofs.OutdatedVersions.{AreGoing, StaysOutdated, stays_outdated, outdated_now}
use Rattle.laws_versions.proofs.DropLaws.{drops_are_of_useless_replicas, never_current, outdated}
use Rattle.laws_versions.specs.DroppedVersions.{DroppedVersionsAreOutdated}

-- one of these messages has a server drop the version
abbrev IsDropSent : List Message → ℕ → ℕ → Type 0
IsDropSent sent handle version = (m : Message) × IsSent sent m × (version_dropped m.body ≡ Some (handle, version))

-- a server was ordered to have the version, which is useless by what is logged
record IsUseless (sent : List Message) (l : Logged) (handle version : ℕ) : Type 0 where
  server : ℕ
  ordered : WasOrdered sent server handle version
  useless : (row : ChunkRow) → chunk_of l.table handle ≡ Some row → version < row.granted

-- what is reported to the master was ordered
line_ordered : (sent : List Message) (server : ℕ) (lines : List ReplicaLine) (handle version : ℕ) → AreLinesOrdered sent server lines → IsReported lines handle version → WasOrdered sent server handle version
line_ordered sent server lines handle version h is =
    let line : ReplicaLine = is.1 in
    subst (λ (q : ℕ). WasOrdered sent server q version) is.3
    (subst (λ (v : ℕ). WasOrdered sent server line.handle.0 v) is.4 (all_at (λ (l : ReplicaLine). WasOrdered sent server l.handle.0 l.version.0) lines is.0 line h is.2))

-- what the master takes was said truly
abbrev IsTrueInput : List Message → NodeInput → Type 0
IsTrueInput sent (input.Deliver m) = IsTrueMessage sent m
IsTrueInput sent input.Tick = Unit {0}

input_true : (w : WorldState) (e : Event) (moment : ℕ) (i : NodeInput) → IsGiven w e node.Master moment i → AreWordsTrue w.sent → IsTrueInput w.sent i
input_true w (event.Deliver number now) moment (input.Deliver m) is words = words m (number - 1, element_numbered w.sent number m is.0)
input_true w e moment input.Tick is words = tt
input_true w (event.Tick to now) moment (input.Deliver m) is words = absurd is
input_true w (event.Call client c now) moment (input.Deliver m) is words = absurd is
input_true w (event.Restart to now) moment (input.Deliver m) is words = absurd is
input_true w (event.Rot to handle place byte) moment (input.Deliver m) is words = absurd is
input_true w (event.Fuse to count torn) moment (input.Deliver m) is words = absurd is

useless_ordered : (sent : List Message) (l : Logged) (i : NodeInput) (server : Node) (handle version : ℕ) → IsTrueInput sent i → IsUselessReplica l i server handle version → IsUseless sent l handle version
useless_ordered sent l i server handle version true_ u =
    let m : Message = u.report in
    let said : IsTrueMessage sent m = subst (λ (j : NodeInput). IsTrueInput sent j) u.taken true_ in
    let lines : AreLinesOrdered sent (server_number m.sender) u.replicas = report_true sent m.sender u.replicas u.leases (subst (λ (b : Body). IsTrueFrom sent m.sender b) u.is_report said) in
    record { server = server_number m.sender; ordered = line_ordered sent (server_number m.sender) u.replicas handle version lines u.reported; useless = u.useless }

-- a master that opens says nothing
opens_silent : (m started : MasterState) (d : MasterDoing) (choice : Choice) (e : Ending) → (opens_as m started d choice e).out.sent ≡ []
opens_silent m started d choice Goes = on_cond (λ (t : Taken MasterState). t.out.sent ≡ []) (has_opened started d && is_within_limits d.master) _ _ (λ _. refl) (λ _. refl)
opens_silent m started d choice Lost = refl
opens_silent m started d choice (Stops made) = refl

restart_silent : (m : MasterState) (moment : ℕ) (choice : Choice) → (master_restart m moment choice).out.sent ≡ []
restart_silent m moment choice =
    let started : MasterState = started_master m.config m.server_count (found_log m choice) moment in
    opens_silent m started (opening started) choice choice.ending

-- what an event brings

unordered_drop : (b : Body) → order_number b ≡ None → version_dropped b ≡ None
unordered_drop (body.Drop order handle version) none = none_some order (sym none)
unordered_drop other none = refl

new_message : (sent : List Message) (k : ℕ) (ms : List Message) (handle version : ℕ) → IsDropSent (sent ++ stamped k ms) handle version
    → IsDropSent sent handle version ⊎ ((x : Message) × IsSent ms x × (version_dropped x.body ≡ Some (handle, version)))
new_message sent k ms handle version g =
    elim (sent_cases sent (stamped k ms) g.0 g.1) [
      | inl old ↦ inl (g.0, old, g.2)
      | inr now ↦ let was = numbered_sent k ms now.0 g.0 now.1 in inr (was.0, was.1, ap version_dropped (was.2).2 ∙ g.2)
    ]

quiet_known : (sent : List Message) (k : ℕ) (ms : List Message) (handle version : ℕ) → HasNoOrder ms → IsDropSent (sent ++ stamped k ms) handle version → IsDropSent sent handle version
quiet_known sent k ms handle version quiet g =
    elim (new_message sent k ms handle version g) [
      | inl old ↦ old
      | inr new ↦
          let none : order_number (new.0).body ≡ None = all_at (λ (x : Message). order_number x.body ≡ None) ms (new.1).0 new.0 (without_order ms quiet) (new.1).1 in
          none_some (handle, version) (sym (unordered_drop (new.0).body none) ∙ new.2)
    ]

-- a Drop was sent before, or names a version that is useless at the master as the step begins
abbrev AreDropsKnown : WorldState → List Message → Type 0
AreDropsKnown w sent = (handle version : ℕ) → IsDropSent sent handle version → IsDropSent w.sent handle version ⊎ (IsTrue w.master.up × IsUseless w.sent w.master.logged handle version)

step_known : (w : WorldState) (moment : ℕ) (i : NodeInput) (choice : Choice) → IsTrueInput w.sent i → IsTrue w.master.up → AreDropsKnown w (w.sent ++ stamped (suc (length w.sent)) (master_step w.master moment i choice).out.sent)
step_known w moment i choice said up handle version g =
    elim (new_message w.sent (suc (length w.sent)) (master_step w.master moment i choice).out.sent handle version g) [
      | inl old ↦ inl old
      | inr new ↦
          let due = drops_are_of_useless_replicas w.master moment i choice (new.1).0 new.0 (new.1).1 handle version new.2 in
          inr (up, useless_ordered w.sent w.master.logged i (new.0).receiver handle version said due)
    ]

silent_known : (w : WorldState) (k : ℕ) (ms : List Message) → ms ≡ [] → AreDropsKnown w (w.sent ++ stamped k ms)
silent_known w k ms none handle version g =
    elim (new_message w.sent k ms handle version g) [
      | inl old ↦ inl old
      | inr new ↦ none_sent new.0 (subst (λ (xs : List Message). IsSent xs new.0) none (new.1))
    ]

drops_known : (w : WorldState) → AreWordsTrue w.sent → HoldsAfter w (λ e h. AreDropsKnown w h.world.sent)
drops_known w words =
    let k : ℕ = suc (length w.sent) in
    record {
      nothing = λ e handle version g. inl g;
      masters = λ e moment i choice is up. step_known w moment i choice (input_true w e moment i is words) up;
      opens = λ e moment choice. silent_known w k (master_restart w.master moment choice).out.sent (restart_silent w.master moment choice);
      serves = λ e index moment s i choice at is up handle version g. inl (quiet_known w.sent k (server_step s moment i choice).out.sent handle version (server_quiet s moment i choice) g);
      restarts = λ e index moment s choice at handle version g. inl (quiet_known w.sent k (server_restart s moment choice).out.sent handle version (server_restarts_quiet s moment choice choice.ending) g);
      steps = λ e index moment s i choice at is up handle version g.
          inl (quiet_known w.sent k (client_step s moment i choice).out.sent handle version (quiet_orders (client_step s moment i choice).out.sent (client_quiet s moment i choice)) g);
      calls = λ e index moment s c choice at may handle version g.
          inl (quiet_known w.sent k (client_call s moment c choice).out.sent handle version (quiet_orders (client_call s moment c choice).out.sent (call_quiet s moment c choice)) g);
      rots = λ e index handle s x place byte ending is_kept at there up q v g. inl g;
    }

-- a version that was ordered is of a handle that was used
useless_now : (config : Config) (servers clients : ℕ) (w : WorldState) → IsReached config servers clients w → IsTrue w.master.up → (handle version : ℕ) → IsUseless w.sent w.master.logged handle version → IsNeverCurrent w.master.logged handle version
useless_now config servers clients w r up handle version u = record { used = (passed u.ordered).0; older = u.useless }
  where
    passed : WasOrdered w.sent u.server handle version → IsPassed handle version w.master.logged
    passed (inl given) = ((given_reached handle version config servers clients w r).words given.1 (given.0, given.2) (inl given.4)).1 up
    passed (inr cloned) = ((clones_shut config servers clients w r handle version (sent_of_cloned w.sent u.server handle version cloned)).up up).0

abbrev AreDropsOutdated : WorldState → Type 0
AreDropsOutdated w = (handle version : ℕ) → IsDropSent w.sent handle version → AreGoing handle version w.master

drops_on : (config : Config) (servers clients : ℕ) (w : WorldState) (steps : List (Event × Choice)) → IsReached config servers clients w → AreDropsOutdated w → AreDropsOutdated (after_events w steps)
drops_on config servers clients w [] r h = h
drops_on config servers clients w (step ∷ rest) r h = drops_on config servers clients (happens w step.0 step.1).world rest (reached_later config servers clients w (step ∷ []) r) next
  where
    later : (handle version : ℕ) → AreGoing handle version w.master → AreGoing handle version (happens w step.0 step.1).world.master
    later handle version g =
        let start : StaysOutdated handle version (scene_of w) = record { base = scene_reached IsOfRevoked revoked_kept config servers clients w r; going = g } in
        (goes_on (StaysOutdated handle version) (stays_outdated handle version) w (step ∷ []) start).going

    next : AreDropsOutdated (happens w step.0 step.1).world
    next handle version g =
        elim (holds_after w (λ e x. AreDropsKnown w x.world.sent) (drops_known w (told_reached config servers clients w r).words) step.0 step.1 handle version g) [
          | inl old ↦ later handle version (h handle version old)
          | inr new ↦
              let outdated_is = outdated w.master.logged handle version (useless_now config servers clients w r new.0 handle version new.1) in
              later handle version (outdated_now handle version w.master (scene_reached IsOfRevoked revoked_kept config servers clients w r).sent.logged new.0 outdated_is)
        ]

pub dropped_versions_are_outdated : DroppedVersionsAreOutdated
dropped_versions_are_outdated config servers clients w r place m at handle version is =
    let all : AreDropsOutdated w = subst (λ (v : WorldState). AreDropsOutdated v) r.1 (drops_on config servers clients (new_world config servers clients) r.0 ([], refl) (λ q v g. none_sent g.0 g.1)) in
    let going : AreGoing handle version w.master = all handle version (m, (place, at), is) in
    (never_current (replayed w.master.disk) handle version (going.found []), λ up. never_current w.master.logged handle version (going.up up))
