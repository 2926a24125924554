-- What a client may be refused for its length, at the machine beside the world (sections 2.4, 3.1 and 3.3).
use Rattle.std.specs.Prelude.{ℕ, IsTrue}
use Rattle.gfs_types.specs.declared.config.Config.{Config}
use Rattle.messages.specs.declared.event.Event.{Event}
use Rattle.protocol.specs.Choice.{Choice}
use Rattle.protocol.specs.World.{WorldState, happens, IsReached, is_kept}
use Rattle.headline.specs.ClientsEvents.{AreTooLong}

-- Where clocks and disks are kept: a range for which a client takes a refusal as too long is too long at the machine beside the world, with nothing of its call placed and no attempt live.
abbrev pub RefusalsForLengthAreSo : Type 0
RefusalsForLengthAreSo =
    (config : Config) (servers clients : ℕ) (w : WorldState) → IsReached config servers clients w → IsTrue (is_kept w)
    → (e : Event) (choice : Choice) → IsTrue (happens w e choice).world.observer.are_clocks_kept → AreTooLong config w (happens w e choice).world e
