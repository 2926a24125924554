-- Open calls of clients, and the answers to them.
use Rattle.std.specs.Prelude.{◌≡◌, ℕ, ◌+◌, Bool, true, false, ◌==◌, ◌&&◌, nat_le, is_some, if◌then◌else◌, List, Option, Some, None, option_map}
use Rattle.gfs_types.specs.declared.answer.Answer.{Answer}
use Rattle.gfs_types.specs.declared.ids.Node.{Node}
use Rattle.gfs_types.specs.declared.ids.Node.TheVariants as node
use Rattle.messages.specs.declared.event.Event.{Event}
use Rattle.messages.specs.declared.event.Event.TheVariants as event
use Rattle.messages.specs.declared.message.Message.{Message}
use Rattle.protocol.specs.Tables.{moment_limit}
use Rattle.protocol.specs.Client.{ClientState}
use Rattle.protocol.specs.ClientStep.{may_call, may_step}
use Rattle.protocol.specs.World.{numbered_from_1}

abbrev pub one_if : Bool → ℕ
one_if b = if b then 1 else 0

-- a client that takes steps
abbrev pub is_up : Option ClientState → Bool
is_up None = false
is_up (Some s) = may_step s

-- one that takes steps, with an open call
abbrev pub is_open : Option ClientState → Bool
is_open None = false
is_open (Some s) = may_step s && is_some s.current

-- one that takes a call
abbrev pub may_take : Option ClientState → Bool
may_take None = false
may_take (Some s) = may_call s

-- the event is a call that the client of this number takes
abbrev pub is_taken : List ClientState → ℕ → Event → Bool
is_taken clients client (event.Call c asked now) = (c.0 == client) && (nat_le now.0 moment_limit && may_take (numbered_from_1 clients c.0))
is_taken clients client (event.Deliver number now) = false
is_taken clients client (event.Tick n now) = false
is_taken clients client (event.Restart n now) = false
is_taken clients client (event.Rot server handle place byte) = false
is_taken clients client (event.Fuse n count torn) = false

-- an answer at a node is one of the client of this number
abbrev pub is_answer_of : ℕ → Node → Option Answer → Bool
is_answer_of client (node.Client c) (Some answer) = c.0 == client
is_answer_of client (node.Client c) None = false
is_answer_of client node.Master answer = false
is_answer_of client (node.Server server) answer = false

-- the node that an event is at
abbrev pub node_of : List Message → Event → Option Node
node_of sent (event.Call client c now) = Some (node.Client client)
node_of sent (event.Deliver number now) = option_map (λ message. message.receiver) (numbered_from_1 sent number)
node_of sent (event.Tick n now) = Some n
node_of sent (event.Restart n now) = Some n
node_of sent (event.Rot server handle place byte) = Some (node.Server server)
node_of sent (event.Fuse n count torn) = Some n

-- A client that is up was up before, and each call that it took is open or was answered.
pub record Counts (before after : Option ClientState) (answered taken : Bool) : Type 0 where
  pub was_up : is_up before ≡ true
  pub sums : one_if (is_open after) + one_if answered ≡ one_if (is_open before) + one_if taken

abbrev pub CountsIfUp : Option ClientState → Option ClientState → Bool → Bool → Type 0
CountsIfUp before after answered taken = is_up after ≡ true → Counts before after answered taken
