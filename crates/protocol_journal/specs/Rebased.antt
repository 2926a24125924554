-- A cell that drops its messages and counts them anew: the master and each server begin again, and what was sent until then never comes any more.
use Rattle.std.specs.Prelude.{◌≡◌, ℕ, zero, suc, ◌+◌, List, [], ◌∷◌, ◌++◌, map, length}
use Rattle.gfs_types.specs.declared.ids.Node.TheVariants as node
use Rattle.messages.specs.declared.message.Message.{Message}
use Rattle.messages.specs.declared.event.Event.{Event}
use Rattle.messages.specs.declared.event.Event.TheVariants as event
use Rattle.messages.specs.declared.event.NodeInput.{NodeInput}
use Rattle.messages.specs.declared.event.NodeInput.TheVariants as input
use Rattle.protocol.specs.Tables.{first_numbers}
use Rattle.protocol.specs.Sending.{moment_of, the_server}
use Rattle.protocol.specs.World.{WorldState, Happened}

-- a message as it is counted among all that were ever sent
abbrev pub raised : ℕ → Message → Message
raised before m = record m { number = m.number + before }

abbrev pub all_raised : ℕ → List Message → List Message
all_raised before messages = map (raised before) messages

abbrev pub raised_input : ℕ → NodeInput → NodeInput
raised_input before (input.Deliver m) = input.Deliver (raised before m)
raised_input before input.Tick = input.Tick

-- 0 is no message's number
abbrev pub raised_number : ℕ → ℕ → ℕ
raised_number before zero = zero
raised_number before (suc n) = suc (n + before)

-- an event as one of a cell that counts all messages
abbrev pub raised_event : ℕ → Event → Event
raised_event before (event.Deliver number now) = event.Deliver (raised_number before number) now
raised_event before (event.Call client c now) = event.Call client c now
raised_event before (event.Tick n now) = event.Tick n now
raised_event before (event.Restart n now) = event.Restart n now
raised_event before (event.Rot server handle place byte) = event.Rot server handle place byte
raised_event before (event.Fuse n count torn) = event.Fuse n count torn

-- the events by which the master and each server begin again
abbrev pub restart_events : ℕ → ℕ → List Event
restart_events servers moment =
    event.Restart node.Master (moment_of moment) ∷ map (λ s. event.Restart (the_server s) (moment_of moment)) (first_numbers servers)

-- A world, and the same one without its first messages, in which the others are counted from 1.
pub record IsCut (w : WorldState) (earlier : List Message) (cut : WorldState) : Type 0 where
  pub but_sent : record w { sent = cut.sent } ≡ cut
  pub sent_is : w.sent ≡ earlier ++ all_raised (length earlier) cut.sent

-- what came to pass in both is the same
pub record GoesAlike (earlier : List Message) (whole cut : Happened) : Type 0 where
  pub out_is : whole.out ≡ cut.out
  pub world_is : IsCut whole.world earlier cut.world

-- a world that counts its messages anew from now on
abbrev pub without_messages : WorldState → WorldState
without_messages w = record w { sent = [] }
