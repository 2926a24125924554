-- A journal: what the nodes of a cell did, in one order. Each entry is a step of one node, which took a call, a message, a tick or a restart, what it gave and what was seen of it; the choices of steps are not in it.
use Rattle.std.specs.Prelude.{◌≡◌, ℕ, suc, Bool, true, false, ◌==◌, nat_le, if◌then◌else◌, List, [], ◌∷◌, ◌++◌, length, Option, Some, None, option_map, IsTrue}
use Rattle.std.specs.FinMap as table
use Rattle.gfs_types.specs.declared.config.Config.{Config}
use Rattle.gfs_types.specs.declared.ids.Node.{Node}
use Rattle.gfs_types.specs.declared.ids.Node.TheVariants as node
use Rattle.gfs_types.specs.declared.call.Call.{Call}
use Rattle.gfs_types.specs.declared.answer.Answer.{Answer}
use Rattle.messages.specs.declared.message.Message.{Message}
use Rattle.messages.specs.declared.event.NodeInput.{NodeInput}
use Rattle.messages.specs.declared.event.NodeInput.TheVariants as input
use Rattle.messages.specs.declared.event.StepOut.{StepOut}
use Rattle.protocol.specs.Tables.{moment_limit}
use Rattle.protocol.specs.Choice.{Choice}
use Rattle.protocol.specs.declared.seen.Seen.{Seen}
use Rattle.protocol.specs.Seen.{Taken, no_step}
use Rattle.protocol.specs.Server.{ServerState}
use Rattle.protocol.specs.ServerStep.{server_step, server_restart}
use Rattle.protocol.specs.Master.{MasterState}
use Rattle.protocol.specs.MasterStep.{master_step, master_restart}
use Rattle.protocol.specs.Client.{ClientState}
use Rattle.protocol.specs.ClientStep.{may_call, client_call, client_step}
use Rattle.protocol.specs.Observer.{Observer, new_observer, observed_moment, observed_call, observed_answer, observed_all}
use Rattle.protocol.specs.World.{WorldState, new_world, numbered_from_1, stamped}

-- what a node takes a step on
pub data StepCause : Type 0 where
  Calls : (call : Call) → StepCause
  Takes : (given : NodeInput) → StepCause
  Restarts : StepCause

-- a step of a node, what it gave, and what an observer sees of it
pub record Entry : Type 0 where
  pub node : Node
  pub moment : ℕ
  pub cause : StepCause
  pub out : StepOut
  pub seen : List Seen

-- a node's state
pub data NodeState : Type 0 where
  MasterIs : (state : MasterState) → NodeState
  ServerIs : (state : ServerState) → NodeState
  ClientIs : (state : ClientState) → NodeState

-- the state of the node of this name, if there is one
abbrev pub node_in : WorldState → Node → Option NodeState
node_in w node.Master = Some (MasterIs w.master)
node_in w (node.Server s) = option_map ServerIs (numbered_from_1 w.servers s.0)
node_in w (node.Client c) = option_map ClientIs (numbered_from_1 w.clients c.0)

abbrev pub taken_by : {S : Type 0} → (S → NodeState) → Taken S → Taken NodeState
taken_by kind t = record { state = kind t.state; out = t.out; seen = t.seen }

-- The step of a node: the protocol's step of that kind of node.
abbrev pub node_step : NodeState → ℕ → StepCause → Choice → Taken NodeState
node_step (MasterIs m) moment (Takes i) choice = taken_by MasterIs (master_step m moment i choice)
node_step (MasterIs m) moment Restarts choice = taken_by MasterIs (master_restart m moment choice)
node_step (ServerIs s) moment (Takes i) choice = taken_by ServerIs (server_step s moment i choice)
node_step (ServerIs s) moment Restarts choice = taken_by ServerIs (server_restart s moment choice)
node_step (ClientIs c) moment (Calls call) choice = taken_by ClientIs (client_call c moment call choice)
node_step (ClientIs c) moment (Takes i) choice = taken_by ClientIs (client_step c moment i choice)
node_step other moment cause choice = no_step other

-- Whether there is a step at all. A node that is down takes no message and no tick; a client calls where it may, and is never restarted.
abbrev pub may_take : NodeState → StepCause → Bool
may_take (MasterIs m) (Takes i) = m.up
may_take (MasterIs m) Restarts = true
may_take (ServerIs s) (Takes i) = s.up
may_take (ServerIs s) Restarts = true
may_take (ClientIs c) (Calls call) = may_call c
may_take (ClientIs c) (Takes i) = c.up
may_take other cause = false

abbrev pub is_node : Node → Node → Bool
is_node node.Master node.Master = true
is_node (node.Server a) (node.Server b) = a.0 == b.0
is_node (node.Client a) (node.Client b) = a.0 == b.0
is_node a b = false

-- a node's own entries
abbrev pub own : Node → List Entry → List Entry
own n [] = []
own n (e ∷ rest) = if is_node e.node n then e ∷ own n rest else own n rest

-- From one state to another by these entries, each of which is a step that gave what the entry says and was seen so, for some choice.
abbrev pub RunsTo : NodeState → List Entry → NodeState → Type 0
RunsTo s [] t = s ≡ t
RunsTo s (e ∷ rest) t =
    (choice : Choice) × IsTrue (may_take s e.cause) × ((node_step s e.moment e.cause choice).out ≡ e.out) × ((node_step s e.moment e.cause choice).seen ≡ e.seen)
    × RunsTo (node_step s e.moment e.cause choice).state rest t

-- a node that is not there has no entries
abbrev pub LeadsTo : Option NodeState → List Entry → Option NodeState → Type 0
LeadsTo None entries end = (entries ≡ []) × (end ≡ None)
LeadsTo (Some s) entries end = (t : NodeState) × (end ≡ Some t) × RunsTo s entries t

-- what was sent so far, with an entry's messages, which get the next numbers
abbrev pub with_messages : List Message → Entry → List Message
with_messages sent e = sent ++ stamped (suc (length sent)) e.out.sent

-- the messages after so many, with those of these entries
abbrev pub sent_after : List Message → List Entry → List Message
sent_after sent [] = sent
sent_after sent (e ∷ rest) = sent_after (with_messages sent e) rest

-- a message that a node takes is one of those that were sent, and its own
abbrev pub IsForNode : List Message → Node → StepCause → Type 0
IsForNode sent n (Takes (input.Deliver m)) = (number : ℕ) × (numbered_from_1 sent number ≡ Some m) × (m.receiver ≡ n)
IsForNode sent n other = Unit {0}

-- an entry may follow where this was sent, by the last moment
abbrev pub MayFollow : List Message → Entry → Type 0
MayFollow sent e = IsTrue (nat_le e.moment moment_limit) × IsForNode sent e.node e.cause

abbrev pub EachMayFollow : List Message → List Entry → Type 0
EachMayFollow sent [] = Unit {0}
EachMayFollow sent (e ∷ rest) = MayFollow sent e × EachMayFollow (with_messages sent e) rest

-- The entries of a cell from its beginning, after which its nodes stand so.
pub record IsLawful (config : Config) (servers clients : ℕ) (entries : List Entry) (ends : Node → Option NodeState) : Type 0 where
  pub follow : EachMayFollow [] entries
  pub nodes : (n : Node) → LeadsTo (node_in (new_world config servers clients) n) (own n entries) (ends n)

-- What an observer sees of an entry: its call, its moment, what came to chunks, its answer.
abbrev pub asked : ℕ → Observer → ℕ → Node → StepCause → Observer
asked skew o moment (node.Client c) (Calls call) = observed_call (observed_moment skew o moment) c.0 call
asked skew o moment n other = o

-- no chunk's order changes by a client's step
abbrev pub noticed : Observer → Node → List Seen → Observer
noticed o (node.Client c) seen = o
noticed o other seen = observed_all o seen

abbrev pub answered : Observer → Node → Option Answer → Observer
answered o (node.Client c) reply = observed_answer o c.0 reply
answered o other reply = o

abbrev pub entry_observed : ℕ → Observer → Entry → Observer
entry_observed skew o e = answered (noticed (observed_moment skew (asked skew o e.moment e.node e.cause) e.moment) e.node e.seen) e.node e.out.answer

abbrev pub observed_after : ℕ → Observer → List Entry → Observer
observed_after skew o [] = o
observed_after skew o (e ∷ rest) = observed_after skew (entry_observed skew o e) rest

-- what is seen of a journal from the cell's beginning
abbrev pub observer_of : Config → List Entry → Observer
observer_of config entries = observed_after config.skew_ms (new_observer table.empty) entries

-- the nodes' states after one of them took a step
abbrev pub with_end : (Node → Option NodeState) → Node → NodeState → Node → Option NodeState
with_end ends n state other = if is_node n other then Some state else ends other
