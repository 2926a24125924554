-- A server that the master counts among those that recorded a version attempt told so, and so it refuses the order that gave it the version.
use Rattle.std.proofs.Common.{◌≡◌, ℕ, suc, ◌≤◌, true, List, [], ◌∷◌, ◌++◌, length, Some, refl, ap, ◌∙◌, arith}
use Rattle.std.specs.Prelude.{◌==◌, ◌&&◌, not}
use Rattle.std.specs.List.{list_any}
use Rattle.std.proofs.lemmas.Bool.{and_from, or_left, or_right}
use Rattle.std.specs.FinMap as table
use Rattle.gfs_types.specs.declared.config.Config.{Config}
use Rattle.gfs_types.specs.declared.ids.Node.{Node}
use Rattle.gfs_types.specs.declared.ids.Node.TheVariants as node
use Rattle.messages.specs.declared.event.NodeInput.{NodeInput}
use Rattle.messages.specs.declared.event.NodeInput.TheVariants as input
use Rattle.messages.specs.declared.message.Message.{Message}
use Rattle.messages.specs.declared.message.Body.{Body}
use Rattle.messages.specs.declared.message.Body.TheVariants as body
use Rattle.messages.specs.declared.message.ReplicaLine.{ReplicaLine}
use Rattle.log_records.specs.declared.record.Record.TheVariants as log
use Rattle.protocol.specs.Tables.{element_at}
use Rattle.protocol.specs.Choice.{Choice, Ending, Goes, Lost, Stops}
use Rattle.protocol.specs.Sending.{the_server, server_number}
use Rattle.protocol.specs.Seen.{Taken, no_step}
use Rattle.protocol.specs.LogSizes.{checkpoint_fits}
use Rattle.protocol.specs.Logged.{checkpoint_of}
use Rattle.protocol.specs.Master.{MasterState, MasterDoing, master_begins, fits, appends, writes_checkpoint, logs_after_checkpoint, is_of_copy}
use Rattle.protocol.specs.MasterStep.{master_goes, master_ends, master_bounded, master_step, is_within_limits, may_end, found_log, started_master, opening, has_opened, opens_as}
use Rattle.protocol.specs.World.{WorldState, stamped, IsReached}
use Rattle.laws_base.specs.Laws.{tells_version, WasTold}
use Rattle.laws_base.proofs.Steps.{on_cond}
use Rattle.laws_base.proofs.Entries.{same_number}
use Rattle.laws_base.proofs.VersionAttempts.{IsServerNumber, AreTold, more_told, none_told, fewer_told}
use Rattle.laws_base.proofs.MasterMoves.{NoneEnded, Keeps}
use Rattle.laws_base.proofs.MasterChunksMoves.{AreLinesTold}
use Rattle.laws_base.proofs.MasterSteps.{IsWordTold, IsInputTold, goes_told}
use Rattle.laws_base.proofs.MembersRecorded.{kept_place, place_below}
use Rattle.laws_base.proofs.SentReached.{IsInputSent, sent_reached}
use Rattle.laws_versions.proofs.RefusedOrders.{told_versions_refuse_their_order}
use Rattle.laws_versions.specs.MasterKnowledge.{RecordedServersRefuseTheirOrder}

-- a server told so, before all that is sent next
abbrev Told : List Message → ℕ → ℕ → ℕ → Type 0
Told sent server handle version = WasTold sent (length sent) server handle version

longer : (sent ms : List Message) → length sent ≤ length (sent ++ ms)
longer [] ms = omega arith
longer (m ∷ sent) ms = let more = longer sent ms in omega (arith, more)

told_later : (sent ms : List Message) (n h v : ℕ) → Told sent n h v → Told (sent ++ ms) n h v
told_later sent ms n h v t = (t.0, (let below = t.1 in let more = longer sent ms in omega (arith, below, more)), t.2, kept_place sent ms t.0 t.2 t.3, t.4, t.5)

-- what the master takes was sent, and so told

sender_is : (n : Node) → IsServerNumber (server_number n) → n ≡ the_server (server_number n)
sender_is node.Master one = absurd (let none : 1 ≤ 0 = one in omega (arith, none))
sender_is (node.Server s) one = refl
sender_is (node.Client c) one = absurd (let none : 1 ≤ 0 = one in omega (arith, none))

word_told : (sent : List Message) (m : Message) (handle version : ℕ) → (place : ℕ) × (element_at sent place ≡ Some m) → tells_version handle version m.body ≡ true → IsServerNumber (server_number m.sender) → Told sent (server_number m.sender) handle version
word_told sent m handle version there tells one = (there.0, place_below sent there.0 m there.1, m, there.1, sender_is m.sender one, tells)

same_both : (h v : ℕ) → (h == h) && (v == v) ≡ true
same_both h v = and_from (h == h) (v == v) (same_number h) (same_number v)

lines_told : (T : ℕ → ℕ → ℕ → Type 0) (server : ℕ) (lines all : List ReplicaLine) → ((h v : ℕ) → list_any (λ line. (line.handle.0 == h) && (line.version.0 == v)) all ≡ true → IsServerNumber server → T server h v)
    → ((h v : ℕ) → list_any (λ line. (line.handle.0 == h) && (line.version.0 == v)) lines ≡ true → list_any (λ line. (line.handle.0 == h) && (line.version.0 == v)) all ≡ true) → AreLinesTold T server lines
lines_told T server [] all told within = tt
lines_told T server (line ∷ lines) all told within = (
  λ one. told line.handle.0 line.version.0 (within line.handle.0 line.version.0 (or_left _ _ (same_both line.handle.0 line.version.0))) one,
  lines_told T server lines all told (λ h v there. within h v (or_right _ _ there)),
)

body_told : (sent : List Message) (m : Message) (b : Body) → m.body ≡ b → (place : ℕ) × (element_at sent place ≡ Some m) → IsWordTold (Told sent) NoneEnded (server_number m.sender) b
body_told sent m (body.Recorded handle version) is there = word_told sent m handle.0 version.0 there (ap (tells_version handle.0 version.0) is ∙ same_both handle.0 version.0)
body_told sent m (body.Report replicas leases) is there =
    lines_told (Told sent) (server_number m.sender) replicas replicas (λ h v told. word_told sent m h v there (ap (tells_version h v) is ∙ told)) (λ h v told. told)
body_told sent m other is there = tt

input_told : (sent : List Message) (i : NodeInput) → IsInputSent sent i → IsInputTold (Told sent) NoneEnded i
input_told sent (input.Deliver m) there = body_told sent m m.body refl there
input_told sent input.Tick there = tt

-- steps and restarts

-- nothing more is asked of a step
nothing_keeps : (T : ℕ → ℕ → ℕ → Type 0) → Keeps ⊥ T NoneEnded (λ c. Unit {0})
nothing_keeps T =
    record {
      tells = λ c receiver b quiet h. tt;
      orders = λ c server b is plain h. tt;
      revokes = λ c handle row is h. tt;
      grants = λ c handle version until primary members told due names from idle h. tt;
      appends = λ c r due plain names h. tt;
      checkpoint = λ c tree h. tt;
      less = λ c handles copied h. tt;
      sound = λ asks. absurd asks;
      ends = λ c handle row is word h. tt;
      extends = λ c handle until row is lasts later from h. tt;
    }

abbrev AreRecorded : List Message → MasterState → Type 0
AreRecorded sent m = AreTold (Told sent) m.attempts

more_recorded : (sent ms : List Message) (m : MasterState) → AreRecorded sent m → AreRecorded (sent ++ ms) m
more_recorded sent ms m h = more_told (Told sent) (Told (sent ++ ms)) (told_later sent ms) m.attempts h

step_recorded : (sent : List Message) (k : ℕ) (m : MasterState) (moment : ℕ) (i : NodeInput) (choice : Choice) → IsInputSent sent i → AreRecorded sent m → AreRecorded (sent ++ stamped k (master_step m moment i choice).out.sent) (master_step m moment i choice).state
step_recorded sent k m moment i choice is h =
    let d : MasterDoing = master_goes m moment i choice.refused in
    let good : Taken MasterState → Type 0 = λ t. AreRecorded (sent ++ stamped k t.out.sent) t.state in
    on_cond good m.up (master_bounded m i d choice) (no_step m)
    (λ _. on_cond good (may_end m i d choice.ending) (master_ends m d choice choice.ending) (no_step m) (λ _. by_ending choice.ending) (λ _. more_recorded sent (stamped k []) m h)) (λ _. more_recorded sent (stamped k []) m h)
  where
    by_ending : (e : Ending)
        → AreRecorded (sent ++ stamped k (master_ends m (master_goes m moment i choice.refused) choice e).out.sent) (master_ends m (master_goes m moment i choice.refused) choice e).state
    by_ending Goes =
        let d : MasterDoing = master_goes m moment i choice.refused in
        more_recorded sent (stamped k (master_ends m d choice Goes).out.sent) d.master
        (goes_told ⊥ (Told sent) NoneEnded (λ c. Unit {0}) (nothing_keeps (Told sent)) m moment i choice.refused (input_told sent i is) (λ asks. absurd asks) (tt, h, λ asks. absurd asks, λ asks. absurd asks)).1
    by_ending Lost = none_told (Told (sent ++ stamped k []))
    by_ending (Stops made) = none_told (Told (sent ++ stamped k []))

opening_recorded : (T : ℕ → ℕ → ℕ → Type 0) (m : MasterState) → AreTold T m.attempts → AreTold T (opening m).master.attempts
opening_recorded T m h =
    let d : MasterDoing = master_begins m [] in
    let r = log.Epoch (suc m.logged.epoch) in
    let good : MasterDoing → Type 0 = λ e. AreTold T e.master.attempts in
    let less : good (writes_checkpoint d) = fewer_told T m.attempts (table.keys m.logged.copies) h in
    on_cond good (fits d r) (appends d r) _ (λ _. h)
    (λ _. on_cond good (checkpoint_fits d.master.config.log_bytes (checkpoint_of d.master.logged)) (logs_after_checkpoint (writes_checkpoint d) r (is_of_copy d.master.logged r) (λ e. e)) d
    (λ _. on_cond good (fits (writes_checkpoint d) r && not (is_of_copy d.master.logged r)) (appends (writes_checkpoint d) r) (writes_checkpoint d) (λ _. less) (λ _. less)) (λ _. h))

opens_recorded : (sent : List Message) (k : ℕ) (old : MasterState) (moment : ℕ) (choice : Choice) (e : Ending)
    → (let started : MasterState = started_master old.config old.server_count (found_log old choice) moment in
    AreRecorded (sent ++ stamped k (opens_as old started (opening started) choice e).out.sent) (opens_as old started (opening started) choice e).state)
opens_recorded sent k old moment choice Lost = none_told (Told (sent ++ stamped k []))
opens_recorded sent k old moment choice (Stops made) = none_told (Told (sent ++ stamped k []))
opens_recorded sent k old moment choice Goes =
    let started : MasterState = started_master old.config old.server_count (found_log old choice) moment in
    let d : MasterDoing = opening started in
    on_cond (λ (t : Taken MasterState). AreRecorded (sent ++ stamped k t.out.sent) t.state) (has_opened started d && is_within_limits d.master) _ _
    (λ _. opening_recorded (Told (sent ++ stamped k [])) started (none_told (Told (sent ++ stamped k [])))) (λ _. none_told (Told (sent ++ stamped k [])))

recorded_reached : (config : Config) (servers clients : ℕ) (w : WorldState) → IsReached config servers clients w → AreRecorded w.sent w.master
recorded_reached config servers clients w r =
    sent_reached AreRecorded
    (record {
      new = λ c n. none_told (Told []);
      quiet = λ sent ms k m quiet h. more_recorded sent (stamped k ms) m h;
      steps = step_recorded;
      restarts = λ sent k m moment choice h. opens_recorded sent k m moment choice choice.ending;
    }) config servers clients w r

pub recorded_servers_refuse_their_order : RecordedServersRefuseTheirOrder
recorded_servers_refuse_their_order config servers clients w r handle a tried index has s there =
    let told : WasTold w.sent (length w.sent) (suc index) handle a.version = (recorded_reached config servers clients w r handle a tried).recorded (suc index) has in
    told_versions_refuse_their_order config servers clients w r told.0 told.2 told.3 handle a.version told.5 index s told.4 there
