-- The answers to calls, counted.
use Rattle.std.specs.Prelude.{ℕ, Bool}
use Rattle.gfs_types.specs.declared.ids.ClientId.{ClientId}
use Rattle.messages.specs.declared.event.Event.{Event}
use Rattle.protocol.specs.World.{numbered_from_1}
use Rattle.laws_base.specs.Answered.{is_taken, is_up}
use Rattle.cell_world.specs.Held.{HeldCell}

-- the client takes steps
abbrev pub takes_steps : HeldCell → ClientId → Bool
takes_steps h client = is_up (numbered_from_1 h.clients client.0)

-- the event is a call that the client takes
abbrev pub takes_call : HeldCell → ClientId → Event → Bool
takes_call h client event = is_taken h.clients client.0 event
