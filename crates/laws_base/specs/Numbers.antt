-- Laws of every lawful list of events on the numbers of clients and of what they send later, that public functions of this crate state.
use Rattle.std.specs.Prelude.{◌≡◌, ◌⊎◌, ℕ, suc, ◌≤◌, ◌<◌, List, length, Some, IsTrue}
use Rattle.gfs_types.specs.declared.config.Config.{Config}
use Rattle.messages.specs.declared.event.Event.{Event}
use Rattle.messages.specs.declared.message.Message.{Message}
use Rattle.messages.specs.declared.message.Body.{Body}
use Rattle.messages.specs.declared.message.Body.TheVariants as body
use Rattle.protocol.specs.Tables.{element_at}
use Rattle.protocol.specs.Sending.{the_client}
use Rattle.protocol.specs.Choice.{Choice}
use Rattle.protocol.specs.Client.{ClientState}
use Rattle.protocol.specs.World.{WorldState, after_events, IsReached}
use Rattle.laws_base.specs.Attempts.{waited_data}

-- The numbers of a client and its clock never fall while it is up (section 3.1).
abbrev pub ClientNumbersRise : Type 0
ClientNumbersRise =
    (config : Config) (servers clients : ℕ) (w : WorldState) → IsReached config servers clients w → (steps : List (Event × Choice))
    → (index : ℕ) (before after : ClientState) → element_at w.clients index ≡ Some before → element_at (after_events w steps).clients index ≡ Some after → IsTrue after.up
    → (before.number ≤ after.number) × (before.call_count ≤ after.call_count) × (before.fd_count ≤ after.fd_count) × (before.now ≤ after.now)

-- a request of a client that comes after it was in this state
abbrev pub IsLaterRequest : ClientState → Body → Type 0
IsLaterRequest s (body.Ask number file wanted deadline lost) = s.number < number
IsLaterRequest s (body.Read number handle version offset count) = s.number < number
IsLaterRequest s (body.Len number handle version) = s.number < number
IsLaterRequest s (body.Push id bytes rest) = s.number < id.seq
IsLaterRequest s (body.Mutate id handle version target deadline) = (s.number < id.seq) ⊎ (waited_data s.current ≡ Some id.seq)
IsLaterRequest s other = Unit {0}

-- What a client sends from now on, names aside, has a number that it has not used yet, but for the Mutate of the data for which it waits. So the numbers of a call are above the one at which it began (section 3.1).
abbrev pub LaterRequestsHaveLaterNumbers : Type 0
LaterRequestsHaveLaterNumbers =
    (config : Config) (servers clients : ℕ) (w : WorldState) → IsReached config servers clients w → (steps : List (Event × Choice))
    → (index : ℕ) (s : ClientState) → element_at w.clients index ≡ Some s
    → (place : ℕ) (m : Message) → length w.sent ≤ place → element_at (after_events w steps).sent place ≡ Some m → m.sender ≡ the_client (suc index) → IsLaterRequest s m.body
