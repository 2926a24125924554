-- An entry is an event of the world.
use Rattle.std.proofs.Common.{◌≡◌, ℕ, suc, ◌-◌, Bool, true, false, cond, List, [], ◌∷◌, ◌++◌, length, Option, Some, None, refl, sym, ap, subst, ◌∙◌}
use Rattle.std.specs.Prelude.{◌==◌, nat_le}
use Rattle.std.specs.Option.{option_map}
use Rattle.gfs_types.specs.declared.ids.Node.{Node}
use Rattle.gfs_types.specs.declared.ids.Node.TheVariants as node
use Rattle.gfs_types.specs.declared.ids.ServerId.{ServerId}
use Rattle.gfs_types.specs.declared.ids.ClientId.{ClientId}
use Rattle.gfs_types.specs.declared.call.Call.{Call}
use Rattle.messages.specs.declared.event.Event.{Event}
use Rattle.messages.specs.declared.event.Event.TheVariants as event
use Rattle.messages.specs.declared.event.NodeInput.{NodeInput}
use Rattle.messages.specs.declared.event.NodeInput.TheVariants as input
use Rattle.messages.specs.declared.event.StepOut.{StepOut}
use Rattle.protocol.specs.Tables.{moment_limit}
use Rattle.protocol.specs.Choice.{Choice}
use Rattle.protocol.specs.declared.seen.Seen.{Seen}
use Rattle.protocol.specs.Seen.{Taken}
use Rattle.protocol.specs.Server.{ServerState}
use Rattle.protocol.specs.ServerStep.{server_step, server_restart}
use Rattle.protocol.specs.Master.{MasterState}
use Rattle.protocol.specs.MasterStep.{master_step, master_restart}
use Rattle.protocol.specs.Client.{ClientState}
use Rattle.protocol.specs.ClientStep.{may_call, client_call, client_step}
use Rattle.protocol.specs.Observer.{Observer, observed_moment, observed_call, observed_answer}
use Rattle.protocol.specs.World.{WorldState, Happened, nothing_happens, numbered_from_1, stamped, after_master, after_server, after_client, server_moves, client_moves, moves, delivered, server_restarts_at, restarts, call_moves, at_moment, happens}
use Rattle.protocol_journal.specs.Journal.{StepCause, Calls, Takes, Restarts, NodeState, MasterIs, ServerIs, ClientIs, node_in, node_step, may_take, is_node, IsForNode, asked, noticed, answered}
use Rattle.protocol_journal.proofs.Nodes.{none_some, true_false, false_true, number_is, numbered_here, numbered_else}
use Rattle.protocol_journal.proofs.Views.{View, view}

-- What came to pass is that this node's step left it so, gave this and was seen so, where the observer had seen its call, if it was one.
pub record Did (w : WorldState) (h : Happened) (n : Node) (moment : ℕ) (o : Observer) (out : StepOut) (seen_so : List Seen) (state : NodeState) : Type 0 where
  pub here : node_in h.world n ≡ Some state
  pub others : (m : Node) → is_node n m ≡ false → node_in h.world m ≡ node_in w m
  pub sent : h.world.sent ≡ w.sent ++ stamped (suc (length w.sent)) out.sent
  pub seen : view h.world.observer ≡ view (answered (noticed (observed_moment w.config.skew_ms o moment) n seen_so) n out.answer)
  pub config : h.world.config ≡ w.config
  pub disks : h.world.observer.are_disks_kept ≡ o.are_disks_kept

master_did : (w : WorldState) (moment : ℕ) (t : Taken MasterState) → Did w (after_master w moment t) node.Master moment w.observer t.out t.seen (MasterIs t.state)
master_did w moment t = record { here = refl; others = others; sent = refl; seen = refl; config = refl; disks = refl }
  where
    others : (m : Node) → is_node node.Master m ≡ false → node_in (after_master w moment t).world m ≡ node_in w m
    others node.Master h = true_false h
    others (node.Server s) h = refl
    others (node.Client c) h = refl

server_did : (w : WorldState) (n moment : ℕ) (s : ServerState) (t : Taken ServerState) → numbered_from_1 w.servers n ≡ Some s
    → Did w (after_server w (n - 1) moment t) (node.Server (record { 0 = n })) moment w.observer t.out t.seen (ServerIs t.state)
server_did w n moment s t at =
    record { here = ap (option_map ServerIs) (numbered_here w.servers n s t.state at); others = others; sent = refl; seen = refl; config = refl; disks = refl }
  where
    others : (m : Node) → is_node (node.Server (record { 0 = n })) m ≡ false → node_in (after_server w (n - 1) moment t).world m ≡ node_in w m
    others node.Master h = refl
    others (node.Server other) h = ap (option_map ServerIs) (numbered_else w.servers n other.0 s t.state at h)
    others (node.Client c) h = refl

client_did : (w : WorldState) (o : Observer) (n moment : ℕ) (s : ClientState) (t : Taken ClientState) → numbered_from_1 w.clients n ≡ Some s
    → Did w (after_client (record w { observer = o }) (n - 1) moment t) (node.Client (record { 0 = n })) moment o t.out t.seen (ClientIs t.state)
client_did w o n moment s t at =
    record {
      here = ap (option_map ClientIs) (numbered_here w.clients n s t.state at);
      others = others;
      sent = refl;
      seen = ap (λ (k : ℕ). view (observed_answer (observed_moment w.config.skew_ms o moment) k t.out.answer)) (number_is w.clients n s at);
      config = refl;
      disks = disks t.out.answer;
    }
  where
    others : (m : Node) → is_node (node.Client (record { 0 = n })) m ≡ false → node_in (after_client (record w { observer = o }) (n - 1) moment t).world m ≡ node_in w m
    others node.Master h = refl
    others (node.Server other) h = refl
    others (node.Client other) h = ap (option_map ClientIs) (numbered_else w.clients n other.0 s t.state at h)

    disks : (reply : Option _) → (observed_answer (observed_moment w.config.skew_ms o moment) (suc (n - 1)) reply).are_disks_kept ≡ o.are_disks_kept
    disks None = refl
    disks (Some reply) = refl

cond_is : {X : Type 0} (b : Bool) (x y : X) → b ≡ true → cond b x y ≡ x
cond_is b x y h = ap (λ (c : Bool). cond c x y) h

-- the event of a message or a tick
input_event : (w : WorldState) (n : Node) (moment : ℕ) (i : NodeInput) (choice : Choice) → nat_le moment moment_limit ≡ true → IsForNode w.sent n (Takes i)
    → (e : Event) × (happens w e choice ≡ moves w n moment i choice)
input_event w n moment (input.Deliver m) choice limit is = (
  event.Deliver is.0 (record { 0 = moment }),
  cond_is (nat_le moment moment_limit) _ (nothing_happens w) limit
      ∙ ap (delivered w moment choice) is.1
      ∙ ap (λ (r : Node). moves w r moment (input.Deliver m) choice) is.2,
)
input_event w n moment input.Tick choice limit is = (event.Tick n (record { 0 = moment }), cond_is (nat_le moment moment_limit) _ (nothing_happens w) limit)

-- an entry is an event which leads so
abbrev pub IsEvent : WorldState → Node → ℕ → StepCause → Choice → NodeState → Type 0
IsEvent w n moment cause choice s =
    (e : Event) × Did w (happens w e choice) n moment (asked w.config.skew_ms w.observer moment n cause) (node_step s moment cause choice).out (node_step s moment cause choice).seen (node_step s moment cause choice).state

master_event : (w : WorldState) (moment : ℕ) (cause : StepCause) (choice : Choice) → nat_le moment moment_limit ≡ true → IsForNode w.sent node.Master cause
    → may_take (MasterIs w.master) cause ≡ true → IsEvent w node.Master moment cause choice (MasterIs w.master)
master_event w moment (Calls call) choice limit is may = false_true may
master_event w moment (Takes i) choice limit is may =
    let given = input_event w node.Master moment i choice limit is in
    let t : Taken MasterState = master_step w.master moment i choice in (
      given.0,
      subst (λ (h : Happened). Did w h node.Master moment w.observer t.out t.seen (MasterIs t.state))
          (sym (given.1 ∙ cond_is w.master.up (after_master w moment t) (nothing_happens w) may)) (master_did w moment t),
    )
master_event w moment Restarts choice limit is may =
    let t : Taken MasterState = master_restart w.master moment choice in (
      event.Restart node.Master (record { 0 = moment }),
      subst (λ (h : Happened). Did w h node.Master moment w.observer t.out t.seen (MasterIs t.state))
          (sym (cond_is (nat_le moment moment_limit) (after_master w moment t) (nothing_happens w) limit)) (master_did w moment t),
    )

server_event : (w : WorldState) (n moment : ℕ) (s : ServerState) (cause : StepCause) (choice : Choice) → numbered_from_1 w.servers n ≡ Some s → nat_le moment moment_limit ≡ true
    → IsForNode w.sent (node.Server (record { 0 = n })) cause → may_take (ServerIs s) cause ≡ true → IsEvent w (node.Server (record { 0 = n })) moment cause choice (ServerIs s)
server_event w n moment s (Calls call) choice at limit is may = false_true may
server_event w n moment s (Takes i) choice at limit is may =
    let here : Node = node.Server (record { 0 = n }) in
    let given = input_event w here moment i choice limit is in
    let t : Taken ServerState = server_step s moment i choice in (
      given.0,
      subst (λ (h : Happened). Did w h here moment w.observer t.out t.seen (ServerIs t.state))
          (sym (given.1 ∙ ap (server_moves w (n - 1) moment i choice) at ∙ cond_is s.up (after_server w (n - 1) moment t) (nothing_happens w) may)) (server_did w n moment s t at),
    )
server_event w n moment s Restarts choice at limit is may =
    let here : Node = node.Server (record { 0 = n }) in
    let t : Taken ServerState = server_restart s moment choice in (
      event.Restart here (record { 0 = moment }),
      subst (λ (h : Happened). Did w h here moment w.observer t.out t.seen (ServerIs t.state))
          (sym (cond_is (nat_le moment moment_limit) _ (nothing_happens w) limit ∙ ap (server_restarts_at w (n - 1) moment choice) at)) (server_did w n moment s t at),
    )

client_event : (w : WorldState) (n moment : ℕ) (s : ClientState) (cause : StepCause) (choice : Choice) → numbered_from_1 w.clients n ≡ Some s → nat_le moment moment_limit ≡ true
    → IsForNode w.sent (node.Client (record { 0 = n })) cause → may_take (ClientIs s) cause ≡ true → IsEvent w (node.Client (record { 0 = n })) moment cause choice (ClientIs s)
client_event w n moment s (Calls call) choice at limit is may =
    let here : Node = node.Client (record { 0 = n }) in
    let t : Taken ClientState = client_call s moment call choice in
    let with_call : ℕ → Observer = λ k. observed_call (observed_moment w.config.skew_ms w.observer moment) k call in (
      event.Call (record { 0 = n }) call (record { 0 = moment }),
      subst (λ (h : Happened). Did w h here moment (with_call n) t.out t.seen (ClientIs t.state))
          (sym (cond_is (nat_le moment moment_limit) _ (nothing_happens w) limit ∙ ap (call_moves w (n - 1) moment call choice) at
          ∙ cond_is (may_call s) _ (nothing_happens w) may
          ∙ ap (λ (k : ℕ). after_client (record w { observer = with_call k }) (n - 1) moment t) (number_is w.clients n s at)))
          (client_did w (with_call n) n moment s t at),
    )
client_event w n moment s (Takes i) choice at limit is may =
    let here : Node = node.Client (record { 0 = n }) in
    let given = input_event w here moment i choice limit is in
    let t : Taken ClientState = client_step s moment i choice in (
      given.0,
      subst (λ (h : Happened). Did w h here moment w.observer t.out t.seen (ClientIs t.state))
          (sym (given.1 ∙ ap (client_moves w (n - 1) moment i choice) at ∙ cond_is s.up (after_client w (n - 1) moment t) (nothing_happens w) may)) (client_did w w.observer n moment s t at),
    )
client_event w n moment s Restarts choice at limit is may = false_true may

same_some : {X : Type 0} (x y : X) → Some x ≡ Some y → x ≡ y
same_some x y h = cc

pub entry_event : (w : WorldState) (n : Node) (moment : ℕ) (cause : StepCause) (s : NodeState) (choice : Choice) → node_in w n ≡ Some s → nat_le moment moment_limit ≡ true
    → IsForNode w.sent n cause → may_take s cause ≡ true → IsEvent w n moment cause choice s
entry_event w node.Master moment cause s choice at limit is may =
    let same : MasterIs w.master ≡ s = same_some (MasterIs w.master) s at in
    subst (λ (x : NodeState). IsEvent w node.Master moment cause choice x) same
    (master_event w moment cause choice limit is (subst (λ (x : NodeState). may_take x cause ≡ true) (sym same) may))
entry_event w (node.Server id) moment cause s choice at limit is may = found (numbered_from_1 w.servers id.0) refl at
  where
    found : (o : Option ServerState) → numbered_from_1 w.servers id.0 ≡ o → option_map ServerIs o ≡ Some s → IsEvent w (node.Server id) moment cause choice s
    found None there h = none_some s h
    found (Some x) there h =
        let same : ServerIs x ≡ s = same_some (ServerIs x) s h in
        subst (λ (y : NodeState). IsEvent w (node.Server id) moment cause choice y) same
        (server_event w id.0 moment x cause choice there limit is (subst (λ (y : NodeState). may_take y cause ≡ true) (sym same) may))
entry_event w (node.Client id) moment cause s choice at limit is may = found (numbered_from_1 w.clients id.0) refl at
  where
    found : (o : Option ClientState) → numbered_from_1 w.clients id.0 ≡ o → option_map ClientIs o ≡ Some s → IsEvent w (node.Client id) moment cause choice s
    found None there h = none_some s h
    found (Some x) there h =
        let same : ClientIs x ≡ s = same_some (ClientIs x) s h in
        subst (λ (y : NodeState). IsEvent w (node.Client id) moment cause choice y) same
        (client_event w id.0 moment x cause choice there limit is (subst (λ (y : NodeState). may_take y cause ≡ true) (sym same) may))
