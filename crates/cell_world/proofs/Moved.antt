-- Steps of nodes, as a cell holds them.
use Rattle.std.proofs.Common.{◌≡◌, ◌<◌, ℕ, suc, ◌-◌, Bool, true, false, List, [], ◌++◌, length, map, Option, Some, None, refl, sym, subst, ap, ◌∙◌, arith}
use Rattle.std.specs.Prelude.{◌⊎◌, ◌&&◌, if◌then◌else◌, max}
use Rattle.std.proofs.lemmas.List.{append-nil}
use Rattle.gfs_types.specs.declared.answer.Answer.{Answer}
use Rattle.gfs_types.specs.declared.call.Call.{Call}
use Rattle.gfs_types.specs.declared.ids.ClientId.{ClientId}
use Rattle.gfs_types.specs.declared.ids.ServerId.{ServerId}
use Rattle.gfs_types.specs.declared.ids.Node.{Node}
use Rattle.gfs_types.specs.declared.ids.Node.TheVariants as node
use Rattle.messages.specs.declared.event.NodeInput.{NodeInput}
use Rattle.messages.specs.declared.event.StepOut.{StepOut}
use Rattle.messages.specs.declared.message.Message.{Message}
use Rattle.protocol.specs.Tables.{Table, element_at, with_at}
use Rattle.protocol.specs.Choice.{Choice, Ending, Goes, Lost, Stops}
use Rattle.protocol.specs.declared.seen.Seen.{Seen}
use Rattle.protocol.specs.Seen.{Taken, no_output, down_output}
use Rattle.protocol.specs.Server.{ServerState}
use Rattle.protocol.specs.ServerStep.{server_step, server_restart, server_restarts}
use Rattle.protocol.specs.Master.{MasterState, MasterDoing, stopped_master}
use Rattle.protocol.specs.MasterStep.{master_step, master_restart, opens_as, has_opened, is_within_limits, opening, started_master, found_log}
use Rattle.protocol.specs.Client.{ClientState}
use Rattle.protocol.specs.ClientStep.{may_call, client_call, client_step}
use Rattle.protocol.specs.Observer.{observed_call, observed_moment}
use Rattle.protocol.specs.World.{WorldState, Happened, nothing_happens, files_seen, after_master, after_server, after_client, numbered_from_1, server_moves, client_moves, moves, restarts, server_restarts_at, call_moves}
use Rattle.protocol.specs.Conforms.{MasterRestarts, ServerSteps}
use Rattle.cell_world.specs.declared.record.CellRecord.{CellRecord}
use Rattle.cell_world.specs.Held.{HeldCell, IsHeldAs, HasEffect}
use Rattle.cell_world.specs.Kept.{blank_seen}
use Rattle.cell_world.specs.Steps.{IsRecorded, StepsAt, IsUpAt, RestartsAt, MasterStepsSo, ClientStepsSo, ClientCallsSo}
use Rattle.cell_world.proofs.Left.{same_up, left_on, restarts_of_what_is_left}
use Rattle.cell_world.proofs.After.{sent_after, held_after_master, held_after_server, held_after_client, held_called}
use Rattle.cell_world.proofs.Acts.{does_nothing, missing, at_place, place_is, there}
use Rattle.cell_world.proofs.WorldOrders.{blank_held}

abbrev world_of : Happened → WorldState
world_of h = h.world

abbrev answer_of : Happened → Option Answer
answer_of h = h.out.answer

-- an act that is known in each world
done : (old new : HeldCell) (act : WorldState → Choice → Happened) (answer : Option Answer) (w : WorldState) (choice : Choice) (h : Happened)
    → act w choice ≡ h → h.out.answer ≡ answer → IsHeldAs h.world new → (other : Choice) × ((act w other).out.answer ≡ answer) × IsHeldAs (act w other).world new
done old new act answer w choice h same answer_is held = (choice, ap answer_of same ∙ answer_is, subst (λ x. IsHeldAs (world_of x) new) (sym same) held)

-- what is recorded, with what was given and seen
abbrev with_records : HeldCell → List Message → List Seen → HeldCell
with_records h sent seen = record h { sent = sent; seen = seen }

-- of what was seen no bytes are kept
held_blank : (w : WorldState) (h : HeldCell) (past seen : List Seen) → IsHeldAs w (record h { seen = past ++ seen }) → IsHeldAs w (record h { seen = past ++ map blank_seen seen })
held_blank w h past seen g = record {
  config = g.config;
  master = g.master;
  files = g.files;
  servers = g.servers;
  clients = g.clients;
  sent = g.sent;
  orders = λ handle. g.orders handle ∙ blank_held past seen handle;
  greatest = g.greatest;
}

recorded : (w : WorldState) (h : HeldCell) (before after : CellRecord) (out given : StepOut) (shown seen : List Seen) (answer : Option Answer)
    → IsHeldAs w (with_records h (sent_after before.network.messages given.sent) (before.sights.seen ++ shown)) → given ≡ out → shown ≡ seen → IsRecorded before out seen answer after
    → IsHeldAs w (with_records h after.network.messages after.sights.seen)
recorded w h before after out given shown seen answer held out_is seen_is r =
    let all : IsHeldAs w (with_records h after.network.messages (before.sights.seen ++ seen)) =
    subst (IsHeldAs w)
    (ap (λ (o : StepOut). with_records h (sent_after before.network.messages o.sent) (before.sights.seen ++ shown)) out_is
    ∙ (ap (λ (s : List Seen). with_records h (sent_after before.network.messages out.sent) (before.sights.seen ++ s)) seen_is
    ∙ ap (λ (ms : List Message). with_records h ms (before.sights.seen ++ seen)) (sym r.sent_is)))
    held in
    subst (λ (s : List Seen). IsHeldAs w (with_records h after.network.messages s)) (sym r.seen_is) (held_blank w (record h { sent = after.network.messages }) before.sights.seen seen all)

-- the greatest moment, as the code has it
at_greatest : (w : WorldState) (h : HeldCell) (moment before greatest : ℕ) → greatest ≡ max before moment → IsHeldAs w (record h { greatest = max before moment }) → IsHeldAs w (record h { greatest = greatest })
at_greatest w h moment before greatest is held = subst (λ (n : ℕ). IsHeldAs w (record h { greatest = n })) (sym is) held

-- a moment that is given again
max_again : (a b : ℕ) → max a b ≡ max (max a b) b
max_again a b = omega arith

-- the master

pub master_down : (h : HeldCell) (moment : ℕ) (i : NodeInput) → h.master.up ≡ false → HasEffect h (λ w choice. moves w node.Master moment i choice) None h
master_down h moment i down = does_nothing h (λ w choice. moves w node.Master moment i choice) (λ w g choice.
    ap (λ (b : Bool). if b then after_master w moment (master_step w.master moment i choice) else nothing_happens w) (sym (ap (λ (m : MasterState). m.up) g.master.but_under_way) ∙ down))

pub master_did : (h : HeldCell) (moment : ℕ) (i : NodeInput) (before after : CellRecord) (answer : Option Answer) (m : MasterState) (files : Table (List ℕ)) (greatest : ℕ)
    → h.master.up ≡ true → MasterStepsSo h.master moment i before answer m after → files ≡ files_seen m h.files → before.network.messages ≡ h.sent → before.sights.seen ≡ h.seen → greatest ≡ max h.greatest moment
    → HasEffect h (λ w choice. moves w node.Master moment i choice) answer (record h { master = m; files = files; sent = after.network.messages; seen = after.sights.seen; greatest = greatest })
master_did h moment i before after answer m files greatest up k files_are sent_is seen_is greatest_is w g =
    let choice = k.steps.choice in
    let t : Taken MasterState = master_step h.master moment i choice in
    let whole : w.master ≡ h.master = same_up w.master h.master g.master up in
    let same : moves w node.Master moment i choice ≡ after_master w moment t =
    ap (λ (x : MasterState). if x.up then after_master w moment (master_step x moment i choice) else nothing_happens w) whole
    ∙ ap (λ (b : Bool). if b then after_master w moment t else nothing_happens w) up in
    let held = held_after_master w h moment t m g k.steps.gives.left_as in
    let new : HeldCell = record h { master = m; files = files; greatest = max h.greatest moment } in
    done h (record new { sent = after.network.messages; seen = after.sights.seen; greatest = greatest }) (λ u c. moves u node.Master moment i c) answer w choice (after_master w moment t) same
    (ap (λ (o : StepOut). o.answer) k.steps.gives.out_is ∙ k.recorded.answer_is)
    (at_greatest (after_master w moment t).world (record new { sent = after.network.messages; seen = after.sights.seen }) moment h.greatest greatest greatest_is
    (recorded (after_master w moment t).world new before after k.out t.out t.seen k.seen answer
    (subst (λ (f : Table (List ℕ)). IsHeldAs (after_master w moment t).world (record new { files = f; sent = sent_after before.network.messages t.out.sent; seen = before.sights.seen ++ t.seen })) (sym files_are)
    (subst (λ (s : List Seen). IsHeldAs (after_master w moment t).world (record new { files = files_seen m h.files; sent = sent_after before.network.messages t.out.sent; seen = s ++ t.seen })) (sym seen_is)
    (subst (λ (ms : List Message). IsHeldAs (after_master w moment t).world (record new { files = files_seen m h.files; sent = sent_after ms t.out.sent; seen = h.seen ++ t.seen })) (sym sent_is) held)))
    k.steps.gives.out_is k.steps.gives.seen_is k.recorded))

-- a restart of the master says and answers nothing
abbrev IsSilent : {S : Type 0} → Taken S → Type 0
IsSilent t = (t.out.sent ≡ []) × (t.out.answer ≡ None) × (t.seen ≡ [])

opens_silently : (old m : MasterState) (d : MasterDoing) (choice : Choice) (e : Ending) → IsSilent (opens_as old m d choice e)
opens_silently old m d choice Lost = (refl, refl, refl)
opens_silently old m d choice (Stops made) = (refl, refl, refl)
opens_silently old m d choice Goes =
    elim (has_opened m d && is_within_limits d.master) as (λ b. IsSilent (if b then record { state = d.master; out = no_output; seen = [] } else record { state = stopped_master old d.master.disk []; out = down_output; seen = [] })) [
      | true ↦ (refl, refl, refl)
      | false ↦ (refl, refl, refl)
    ]

silent : (w : WorldState) (h : HeldCell) (sent : List Message) (seen : List Seen) → sent ≡ [] → seen ≡ [] → IsHeldAs w (with_records h (sent_after h.sent sent) (h.seen ++ seen)) → IsHeldAs w h
silent w h sent seen none unseen held =
    subst (IsHeldAs w)
    (ap (λ (ms : List Message). with_records h (sent_after h.sent ms) (h.seen ++ seen)) none
    ∙ (ap (λ (s : List Seen). with_records h (h.sent ++ []) (h.seen ++ s)) unseen
    ∙ (ap (λ (ms : List Message). with_records h ms (h.seen ++ [])) (append-nil h.sent) ∙ ap (λ (s : List Seen). with_records h h.sent s) (append-nil h.seen))))
    held

pub master_restarted : (h : HeldCell) (moment : ℕ) (out : StepOut) (m : MasterState) (files : Table (List ℕ)) (greatest : ℕ) → MasterRestarts h.master moment out m → files ≡ files_seen m h.files → greatest ≡ max h.greatest moment
    → HasEffect h (λ w choice. restarts w node.Master moment choice) None (record h { master = m; files = files; greatest = greatest })
master_restarted h moment out m files greatest k files_are greatest_is w g =
    let left = restarts_of_what_is_left w.master h.master g.master moment k.choice in
    let choice = left.0 in
    let t : Taken MasterState = master_restart w.master moment choice in
    let quiet : IsSilent t = opens_silently w.master (started_master w.master.config w.master.server_count (found_log w.master choice) moment) (opening (started_master w.master.config w.master.server_count (found_log w.master choice) moment)) choice choice.ending in
    let held = held_after_master w h moment t m g (left_on t.state (master_restart h.master moment k.choice).state m left.1.2 k.gives.left_as) in
    let new : HeldCell = record h { master = m; files = files_seen m h.files; greatest = max h.greatest moment } in
    done h (record h { master = m; files = files; greatest = greatest }) (λ u c. restarts u node.Master moment c) None w choice (after_master w moment t) refl quiet.1
    (at_greatest (after_master w moment t).world (record h { master = m; files = files }) moment h.greatest greatest greatest_is
    (subst (λ (f : Table (List ℕ)). IsHeldAs (after_master w moment t).world (record new { files = f })) (sym files_are)
    (silent (after_master w moment t).world new t.out.sent t.seen quiet.0 quiet.2 held)))

-- a server

pub no_server : (h : HeldCell) (id : ServerId) (moment : ℕ) (i : NodeInput) → (id.0 ≡ 0) ⊎ (length h.servers < id.0) → HasEffect h (λ w choice. moves w (node.Server id) moment i choice) None h
no_server h id moment i m = does_nothing h (λ w choice. moves w (node.Server id) moment i choice) (λ w g choice.
    ap (server_moves w (id.0 - 1) moment i choice) (ap (λ ss. numbered_from_1 ss id.0) g.servers ∙ missing h.servers id.0 m))

-- the server of a number in a world
found_server : (w : WorldState) (h : HeldCell) (n place : ℕ) (s : ServerState) → IsHeldAs w h → n ≡ suc place → element_at h.servers place ≡ Some s → numbered_from_1 w.servers n ≡ Some s
found_server w h n place s g e is = ap (λ ss. numbered_from_1 ss n) g.servers ∙ (at_place h.servers n place e ∙ is)

pub server_down : (h : HeldCell) (id : ServerId) (place moment : ℕ) (i : NodeInput) → id.0 ≡ suc place → place < length h.servers → IsUpAt (λ (s : ServerState). s.up) h.servers place false
    → HasEffect h (λ w choice. moves w (node.Server id) moment i choice) None h
server_down h id place moment i e within down =
    let s = there h.servers place within in
    does_nothing h (λ w choice. moves w (node.Server id) moment i choice) (λ w g choice.
    ap (server_moves w (id.0 - 1) moment i choice) (found_server w h id.0 place s.0 g e s.1)
    ∙ ap (λ (b : Bool). if b then after_server w (id.0 - 1) moment (server_step s.0 moment i choice) else nothing_happens w) (down s.0 s.1))

pub server_did : (h : HeldCell) (id : ServerId) (place moment : ℕ) (i : NodeInput) (before after : CellRecord) (answer : Option Answer) (servers : List ServerState) (greatest : ℕ)
    → id.0 ≡ suc place → IsUpAt (λ (s : ServerState). s.up) h.servers place true
    → StepsAt (λ s out seen t. ServerSteps s moment i out seen t) h.servers place before answer servers after → before.network.messages ≡ h.sent → before.sights.seen ≡ h.seen → greatest ≡ max h.greatest moment
    → HasEffect h (λ w choice. moves w (node.Server id) moment i choice) answer (record h { servers = servers; sent = after.network.messages; seen = after.sights.seen; greatest = greatest })
server_did h id place moment i before after answer servers greatest e up k sent_is seen_is greatest_is w g =
    let choice = k.steps.choice in
    let t : Taken ServerState = server_step k.old moment i choice in
    let same : moves w (node.Server id) moment i choice ≡ after_server w place moment t =
    ap (server_moves w (id.0 - 1) moment i choice) (found_server w h id.0 place k.old g e k.is_there)
    ∙ (ap (λ (b : Bool). if b then after_server w (id.0 - 1) moment t else nothing_happens w) (up k.old k.is_there)
    ∙ ap (λ (n : ℕ). after_server w n moment t) (place_is id.0 place e)) in
    let held = held_after_server w h place moment t g in
    let passed : HeldCell = record h { greatest = max h.greatest moment } in
    let new : HeldCell = record passed { servers = servers } in
    let servers_are : with_at h.servers place t.state ≡ servers = ap (with_at h.servers place) k.steps.gives.state_is ∙ sym k.nodes_are in
    done h (record new { sent = after.network.messages; seen = after.sights.seen; greatest = greatest }) (λ u c. moves u (node.Server id) moment i c) answer w choice (after_server w place moment t) same
    (ap (λ (o : StepOut). o.answer) k.steps.gives.out_is ∙ k.recorded.answer_is)
    (at_greatest (after_server w place moment t).world (record new { sent = after.network.messages; seen = after.sights.seen }) moment h.greatest greatest greatest_is
    (recorded (after_server w place moment t).world new before after k.out t.out t.seen k.seen answer
    (subst (λ (ss : List ServerState). IsHeldAs (after_server w place moment t).world (record passed { servers = ss; sent = sent_after before.network.messages t.out.sent; seen = before.sights.seen ++ t.seen })) servers_are
    (subst (λ (s : List Seen). IsHeldAs (after_server w place moment t).world (record passed { servers = with_at h.servers place t.state; sent = sent_after before.network.messages t.out.sent; seen = s ++ t.seen })) (sym seen_is)
    (subst (λ (ms : List Message). IsHeldAs (after_server w place moment t).world (record passed { servers = with_at h.servers place t.state; sent = sent_after ms t.out.sent; seen = h.seen ++ t.seen })) (sym sent_is) held)))
    k.steps.gives.out_is k.steps.seen_is k.recorded))

restarts_silently : (s : ServerState) (moment : ℕ) (choice : Choice) (e : Ending) → IsSilent (server_restarts s moment choice e)
restarts_silently s moment choice Goes = (refl, refl, refl)
restarts_silently s moment choice Lost = (refl, refl, refl)
restarts_silently s moment choice (Stops made) = (refl, refl, refl)

pub no_server_restarts : (h : HeldCell) (id : ServerId) (moment : ℕ) → (id.0 ≡ 0) ⊎ (length h.servers < id.0) → HasEffect h (λ w choice. restarts w (node.Server id) moment choice) None h
no_server_restarts h id moment m = does_nothing h (λ w choice. restarts w (node.Server id) moment choice) (λ w g choice.
    ap (server_restarts_at w (id.0 - 1) moment choice) (ap (λ ss. numbered_from_1 ss id.0) g.servers ∙ missing h.servers id.0 m))

pub server_restarted : (h : HeldCell) (id : ServerId) (place moment : ℕ) (out : StepOut) (servers : List ServerState) (greatest : ℕ) → id.0 ≡ suc place → RestartsAt h.servers place moment out servers → greatest ≡ max h.greatest moment
    → HasEffect h (λ w choice. restarts w (node.Server id) moment choice) None (record h { servers = servers; greatest = greatest })
server_restarted h id place moment out servers greatest e k greatest_is w g =
    let choice = k.restarts.choice in
    let t : Taken ServerState = server_restart k.old moment choice in
    let quiet : IsSilent t = restarts_silently k.old moment choice choice.ending in
    let same : restarts w (node.Server id) moment choice ≡ after_server w place moment t =
    ap (server_restarts_at w (id.0 - 1) moment choice) (found_server w h id.0 place k.old g e k.is_there)
    ∙ ap (λ (n : ℕ). after_server w n moment t) (place_is id.0 place e) in
    let servers_are : with_at h.servers place t.state ≡ servers = ap (with_at h.servers place) k.restarts.gives.state_is ∙ sym k.servers_are in
    let passed : HeldCell = record h { greatest = max h.greatest moment } in
    done h (record h { servers = servers; greatest = greatest }) (λ u c. restarts u (node.Server id) moment c) None w choice (after_server w place moment t) same quiet.1
    (at_greatest (after_server w place moment t).world (record h { servers = servers }) moment h.greatest greatest greatest_is
    (subst (λ (ss : List ServerState). IsHeldAs (after_server w place moment t).world (record passed { servers = ss })) servers_are
    (silent (after_server w place moment t).world (record passed { servers = with_at h.servers place t.state }) t.out.sent t.seen quiet.0 quiet.2 (held_after_server w h place moment t g))))

-- a client

pub no_client : (h : HeldCell) (id : ClientId) (moment : ℕ) (i : NodeInput) → (id.0 ≡ 0) ⊎ (length h.clients < id.0) → HasEffect h (λ w choice. moves w (node.Client id) moment i choice) None h
no_client h id moment i m = does_nothing h (λ w choice. moves w (node.Client id) moment i choice) (λ w g choice.
    ap (client_moves w (id.0 - 1) moment i choice) (ap (λ cs. numbered_from_1 cs id.0) g.clients ∙ missing h.clients id.0 m))

found_client : (w : WorldState) (h : HeldCell) (n place : ℕ) (s : ClientState) → IsHeldAs w h → n ≡ suc place → element_at h.clients place ≡ Some s → numbered_from_1 w.clients n ≡ Some s
found_client w h n place s g e is = ap (λ cs. numbered_from_1 cs n) g.clients ∙ (at_place h.clients n place e ∙ is)

pub client_down : (h : HeldCell) (id : ClientId) (place moment : ℕ) (i : NodeInput) → id.0 ≡ suc place → place < length h.clients → IsUpAt (λ (s : ClientState). s.up) h.clients place false
    → HasEffect h (λ w choice. moves w (node.Client id) moment i choice) None h
client_down h id place moment i e within down =
    let s = there h.clients place within in
    does_nothing h (λ w choice. moves w (node.Client id) moment i choice) (λ w g choice.
    ap (client_moves w (id.0 - 1) moment i choice) (found_client w h id.0 place s.0 g e s.1)
    ∙ ap (λ (b : Bool). if b then after_client w (id.0 - 1) moment (client_step s.0 moment i choice) else nothing_happens w) (down s.0 s.1))

-- what a client gave is recorded, and nothing was seen of it
client_held : (w u : WorldState) (h : HeldCell) (place moment : ℕ) (t : Taken ClientState) (before after : CellRecord) (out : StepOut) (seen : List Seen) (answer : Option Answer) (new : ClientState) (clients : List ClientState) (greatest : ℕ)
    → IsHeldAs u h → t.out ≡ out → t.state ≡ new → seen ≡ [] → clients ≡ with_at h.clients place new → IsRecorded before out seen answer after → before.network.messages ≡ h.sent → before.sights.seen ≡ h.seen → greatest ≡ max h.greatest moment
    → IsHeldAs (after_client u place moment t).world (record h { clients = clients; sent = after.network.messages; seen = after.sights.seen; greatest = greatest })
client_held w u h place moment t before after out seen answer new clients greatest g out_is state_is unseen clients_are r sent_is seen_is greatest_is =
    let last = (after_client u place moment t).world in
    let clients_so : with_at h.clients place t.state ≡ clients = ap (with_at h.clients place) state_is ∙ sym clients_are in
    let seen_so : h.seen ≡ before.sights.seen ++ [] = sym seen_is ∙ sym (append-nil before.sights.seen) in
    let passed : HeldCell = record h { greatest = max h.greatest moment } in
    at_greatest last (record h { clients = clients; sent = after.network.messages; seen = after.sights.seen }) moment h.greatest greatest greatest_is
    (recorded last (record passed { clients = clients }) before after out t.out [] seen answer
    (subst (λ (cs : List ClientState). IsHeldAs last (record passed { clients = cs; sent = sent_after before.network.messages t.out.sent; seen = before.sights.seen ++ [] })) clients_so
    (subst (λ (s : List Seen). IsHeldAs last (record passed { clients = with_at h.clients place t.state; sent = sent_after before.network.messages t.out.sent; seen = s })) seen_so
    (subst (λ (ms : List Message). IsHeldAs last (record passed { clients = with_at h.clients place t.state; sent = sent_after ms t.out.sent })) (sym sent_is) (held_after_client u h place moment t g))))
    out_is (sym unseen) r)

pub client_did : (h : HeldCell) (id : ClientId) (place moment : ℕ) (i : NodeInput) (before after : CellRecord) (answer : Option Answer) (clients : List ClientState) (greatest : ℕ)
    → id.0 ≡ suc place → IsUpAt (λ (s : ClientState). s.up) h.clients place true
    → StepsAt (λ s out seen t. ClientStepsSo s moment i out seen t) h.clients place before answer clients after → before.network.messages ≡ h.sent → before.sights.seen ≡ h.seen → greatest ≡ max h.greatest moment
    → HasEffect h (λ w choice. moves w (node.Client id) moment i choice) answer (record h { clients = clients; sent = after.network.messages; seen = after.sights.seen; greatest = greatest })
client_did h id place moment i before after answer clients greatest e up k sent_is seen_is greatest_is w g =
    let choice = k.steps.steps.choice in
    let t : Taken ClientState = client_step k.old moment i choice in
    let same : moves w (node.Client id) moment i choice ≡ after_client w place moment t =
    ap (client_moves w (id.0 - 1) moment i choice) (found_client w h id.0 place k.old g e k.is_there)
    ∙ (ap (λ (b : Bool). if b then after_client w (id.0 - 1) moment t else nothing_happens w) (up k.old k.is_there)
    ∙ ap (λ (n : ℕ). after_client w n moment t) (place_is id.0 place e)) in
    done h (record h { clients = clients; sent = after.network.messages; seen = after.sights.seen; greatest = greatest }) (λ u c. moves u (node.Client id) moment i c) answer w choice (after_client w place moment t) same
    (ap (λ (o : StepOut). o.answer) k.steps.steps.gives.out_is ∙ k.recorded.answer_is)
    (client_held w w h place moment t before after k.out k.seen answer k.new clients greatest g k.steps.steps.gives.out_is k.steps.steps.gives.state_is k.steps.unseen k.nodes_are k.recorded sent_is seen_is greatest_is)

-- a call

pub no_caller : (h : HeldCell) (id : ClientId) (moment : ℕ) (c : Call) → (id.0 ≡ 0) ⊎ (length h.clients < id.0)
    → HasEffect h (λ w choice. call_moves w (id.0 - 1) moment c choice (numbered_from_1 w.clients id.0)) None h
no_caller h id moment c m = does_nothing h (λ w choice. call_moves w (id.0 - 1) moment c choice (numbered_from_1 w.clients id.0)) (λ w g choice.
    ap (call_moves w (id.0 - 1) moment c choice) (ap (λ cs. numbered_from_1 cs id.0) g.clients ∙ missing h.clients id.0 m))

abbrev seen_call : WorldState → ℕ → ℕ → Call → WorldState
seen_call w moment client c = record w { observer = observed_call (observed_moment w.config.skew_ms w.observer moment) client c }

pub call_barred : (h : HeldCell) (id : ClientId) (place moment : ℕ) (c : Call) → id.0 ≡ suc place → place < length h.clients → IsUpAt may_call h.clients place false
    → HasEffect h (λ w choice. call_moves w (id.0 - 1) moment c choice (numbered_from_1 w.clients id.0)) None h
call_barred h id place moment c e within barred =
    let s = there h.clients place within in
    does_nothing h (λ w choice. call_moves w (id.0 - 1) moment c choice (numbered_from_1 w.clients id.0)) (λ w g choice.
    ap (call_moves w (id.0 - 1) moment c choice) (found_client w h id.0 place s.0 g e s.1)
    ∙ ap (λ (b : Bool). if b then after_client (seen_call w moment (suc (id.0 - 1)) c) (id.0 - 1) moment (client_call s.0 moment c choice) else nothing_happens w) (barred s.0 s.1))

pub call_did : (h : HeldCell) (id : ClientId) (place moment : ℕ) (c : Call) (before after : CellRecord) (answer : Option Answer) (clients : List ClientState) (greatest : ℕ)
    → id.0 ≡ suc place → IsUpAt may_call h.clients place true
    → StepsAt (λ s out seen t. ClientCallsSo s moment c out seen t) h.clients place before answer clients after → before.network.messages ≡ h.sent → before.sights.seen ≡ h.seen → greatest ≡ max h.greatest moment
    → HasEffect h (λ w choice. call_moves w (id.0 - 1) moment c choice (numbered_from_1 w.clients id.0)) answer (record h { clients = clients; sent = after.network.messages; seen = after.sights.seen; greatest = greatest })
call_did h id place moment c before after answer clients greatest e may k sent_is seen_is greatest_is w g =
    let choice = k.steps.calls.choice in
    let t : Taken ClientState = client_call k.old moment c choice in
    let u = seen_call w moment (suc place) c in
    let same : call_moves w (id.0 - 1) moment c choice (numbered_from_1 w.clients id.0) ≡ after_client u place moment t =
    ap (call_moves w (id.0 - 1) moment c choice) (found_client w h id.0 place k.old g e k.is_there)
    ∙ (ap (λ (b : Bool). if b then after_client (seen_call w moment (suc (id.0 - 1)) c) (id.0 - 1) moment t else nothing_happens w) (may k.old k.is_there)
    ∙ ap (λ (n : ℕ). after_client (seen_call w moment (suc n) c) n moment t) (place_is id.0 place e)) in
    let passed : HeldCell = record h { greatest = max h.greatest moment } in
    done h (record h { clients = clients; sent = after.network.messages; seen = after.sights.seen; greatest = greatest }) (λ v x. call_moves v (id.0 - 1) moment c x (numbered_from_1 v.clients id.0)) answer w choice (after_client u place moment t) same
    (ap (λ (o : StepOut). o.answer) k.steps.calls.gives.out_is ∙ k.recorded.answer_is)
    (client_held w u passed place moment t before after k.out k.seen answer k.new clients greatest (held_called w h moment (suc place) c g) k.steps.calls.gives.out_is k.steps.calls.gives.state_is k.steps.unseen k.nodes_are k.recorded sent_is seen_is
    (greatest_is ∙ max_again h.greatest moment))

-- a node by what it is

pub moves_at : (h new : HeldCell) (n other : Node) (moment : ℕ) (i : NodeInput) (answer : Option Answer) → n ≡ other → HasEffect h (λ w choice. moves w other moment i choice) answer new
    → HasEffect h (λ w choice. moves w n moment i choice) answer new
moves_at h new n other moment i answer same d = subst (λ (x : Node). HasEffect h (λ w choice. moves w x moment i choice) answer new) (sym same) d

pub restarts_at : (h new : HeldCell) (n other : Node) (moment : ℕ) (answer : Option Answer) → n ≡ other → HasEffect h (λ w choice. restarts w other moment choice) answer new
    → HasEffect h (λ w choice. restarts w n moment choice) answer new
restarts_at h new n other moment answer same d = subst (λ (x : Node). HasEffect h (λ w choice. restarts w x moment choice) answer new) (sym same) d

pub client_restarts : (h : HeldCell) (n : Node) (id : ClientId) (moment : ℕ) → n ≡ node.Client id → HasEffect h (λ w choice. restarts w n moment choice) None h
client_restarts h n id moment same =
    restarts_at h h n (node.Client id) moment None same (does_nothing h (λ w choice. restarts w (node.Client id) moment choice) (λ w g choice. refl))
