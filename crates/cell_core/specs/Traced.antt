-- What an event adds to the trace, in which clients see calls, answers and how far the clock came (section 2.7).
use Rattle.std.specs.Prelude.{◌≡◌, ◌⊎◌, ℕ, List, [], ◌∷◌, ◌++◌, Option, Some, None, option_and_then}
use Rattle.gfs_types.specs.declared.answer.Answer.{Answer}
use Rattle.gfs_types.specs.declared.ids.Node.{Node}
use Rattle.gfs_types.specs.declared.ids.Node.TheVariants as node
use Rattle.messages.specs.declared.event.Event.{Event}
use Rattle.messages.specs.declared.event.Event.TheVariants as event
use Rattle.relaxed_file.specs.Run.{Visible, Called, Answered, Passed}
use Rattle.protocol.specs.World.{WorldState, numbered_from_1}

-- the moment that an event is given
abbrev pub moment_given : Event → Option ℕ
moment_given (event.Call client c now) = Some now.0
moment_given (event.Deliver number now) = Some now.0
moment_given (event.Tick n now) = Some now.0
moment_given (event.Restart n now) = Some now.0
moment_given (event.Rot server handle place byte) = None
moment_given (event.Fuse n count torn) = None

abbrev pub client_at : Node → Option ℕ
client_at node.Master = None
client_at (node.Server s) = None
client_at (node.Client c) = Some c.0

-- the client that takes a step at an event
abbrev pub client_of : WorldState → Event → Option ℕ
client_of w (event.Call client c now) = Some client.0
client_of w (event.Deliver number now) = option_and_then (λ m. client_at m.receiver) (numbered_from_1 w.sent number)
client_of w (event.Tick n now) = client_at n
client_of w (event.Restart n now) = None
client_of w (event.Rot server handle place byte) = None
client_of w (event.Fuse n count torn) = None

-- nothing, or that the clock came to the event's moment
abbrev pub IsPassing : Event → List Visible → Type 0
IsPassing e passed = (passed ≡ []) ⊎ ((moment : ℕ) × (moment_given e ≡ Some moment) × (passed ≡ Passed moment ∷ []))

-- nothing, or the event's call
abbrev pub IsCalling : Event → List Visible → Type 0
IsCalling (event.Call client c now) called = (called ≡ []) ⊎ (called ≡ Called client.0 c ∷ [])
IsCalling other called = called ≡ []

abbrev pub answered_at : Option ℕ → Answer → List Visible
answered_at None reply = []
answered_at (Some client) reply = Answered client reply ∷ []

-- the answer, if there is one, to the client
abbrev pub answered : Option ℕ → Option Answer → List Visible
answered client None = []
answered client (Some reply) = answered_at client reply

-- An event adds at most its moment and its call, and just its answer.
pub record AddsToTrace (w : WorldState) (e : Event) (answer : Option Answer) (next : WorldState) : Type 0 where
  pub passed : List Visible
  pub called : List Visible
  pub is_passing : IsPassing e passed
  pub is_calling : IsCalling e called
  pub trace_is : next.observer.trace ≡ w.observer.trace ++ passed ++ called ++ answered (client_of w e) answer
