-- The law that the public function of this crate states.
use Rattle.std.specs.Prelude.{◌≡◌, ℕ, Some}
use Rattle.gfs_types.specs.declared.ids.Node.{Node}
use Rattle.messages.specs.declared.event.Event.{Event}
use Rattle.protocol.specs.Choice.{Choice}
use Rattle.protocol.specs.World.{WorldState, happens, numbered_from_1}
use Rattle.laws_base.specs.Answered.{CountsIfUp, is_answer_of, is_taken, node_of}

-- of the client of a number, over each event with any choice
abbrev pub CallsAreAnsweredOnce : Type 0
CallsAreAnsweredOnce =
    (w : WorldState) (e : Event) (choice : Choice) (n : Node) (client : ℕ) → node_of w.sent e ≡ Some n
    → CountsIfUp (numbered_from_1 w.clients client) (numbered_from_1 (happens w e choice).world.clients client) (is_answer_of client n (happens w e choice).out.answer) (is_taken w.clients client e)
