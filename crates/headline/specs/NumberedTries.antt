-- The tries of calls at the machine stay numbered: no action but Place adds one (sections 3.1 and 3.3).
use Rattle.std.specs.Prelude.{◌⊎◌, List, IsTrue}
use Rattle.std.specs.List.{list_all}
use Rattle.gfs_types.specs.declared.config.Config.{Config}
use Rattle.messages.specs.declared.event.Event.{Event}
use Rattle.relaxed_file.specs.Machine.{Machine}
use Rattle.relaxed_file.specs.Run.{Action, IsLawful, after_all}
use Rattle.protocol.specs.Choice.{Choice}
use Rattle.protocol.specs.World.{WorldState, happens}
use Rattle.laws_machine.specs.ChunksAlike.{ChunkSides}
use Rattle.laws_machine.specs.ChunksBeside.{AreChunksBeside}
use Rattle.laws_machine.specs.SentRequests.{AreRequestsOfCalls, AreTriesNumbered}
use Rattle.laws_machine.specs.Tries.{places_nothing, HasNoMoreTries, AddsNumberedTries}

-- Where nothing takes a place, no chunk has more tries.
abbrev pub QuietActionsAddNoTries : Type 0
QuietActionsAddNoTries = (m : Machine) (actions : List Action) → IsLawful m actions → IsTrue (list_all places_nothing actions) → HasNoMoreTries m (after_all m actions)

-- Where clocks are kept, at each event the tries stay numbered, where nothing takes a place, or what a server numbers.
abbrev pub TriesStayNumbered : Type 0
TriesStayNumbered =
    (config : Config) (w : WorldState) (e : Event) (choice : Choice) → IsTrue w.observer.are_clocks_kept → (k : ChunkSides) → AreChunksBeside config w k → AreRequestsOfCalls config w k.machine → AreTriesNumbered w k.machine
    → (n : Machine) → HasNoMoreTries k.machine n ⊎ AddsNumberedTries w (happens w e choice).world k n → AreTriesNumbered (happens w e choice).world n
