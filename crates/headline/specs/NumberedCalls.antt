-- What a server may number is for its client's open call at the machine, and requests stay of calls at each event (sections 3.1 and 3.3).
use Rattle.std.specs.Prelude.{ℕ, List, IsTrue}
use Rattle.gfs_types.specs.declared.config.Config.{Config}
use Rattle.messages.specs.declared.event.Event.{Event}
use Rattle.relaxed_file.specs.Machine.{Machine}
use Rattle.relaxed_file.specs.Run.{LeadsTo, IsRunTo}
use Rattle.protocol.specs.Choice.{Choice}
use Rattle.protocol.specs.Master.{PendingSnapshot}
use Rattle.protocol.specs.World.{WorldState, happens, IsReached, is_kept}
use Rattle.protocol.specs.Explained.{AreSettings}
use Rattle.laws_machine.specs.ChunksAlike.{ChunkSides}
use Rattle.laws_machine.specs.SentRequests.{AreRequestsOfCalls}
use Rattle.laws_machine.specs.ServerSteps.{AreForOpenCalls}
use Rattle.laws_machine.specs.WholeWorlds.{AreFileClients, IsBeside, RequestsStayNumbered}

-- Where clocks and disks are kept: each mutation that a server may number is for its client's open call.
abbrev pub NumberedMutationsAreForOpenCalls : Type 0
NumberedMutationsAreForOpenCalls =
    (config : Config) (servers clients : ℕ) (w : WorldState) → AreSettings config → IsReached config servers clients w → IsTrue (is_kept w) → (ss : List PendingSnapshot) (k : ChunkSides) → IsBeside config w ss k
    → AreForOpenCalls w k

-- At each event, however the machine beside the world goes on, requests stay of their calls, and new ones are: the clients that are up have their calls at the machine. What was refused for its length is too long.
abbrev pub RequestsStayOfCalls : Type 0
RequestsStayOfCalls =
    (config : Config) (w : WorldState) (ss : List PendingSnapshot) (k : ChunkSides) (n : Machine) (e : Event) (choice : Choice) → IsBeside config w ss k
    → LeadsTo k.machine n → IsRunTo config (happens w e choice).world.observer.trace n → AreFileClients (happens w e choice).world.clients n
    → AreRequestsOfCalls config (happens w e choice).world n

-- And, where clocks are kept, the tries stay numbered, where the machine places only what is numbered.
abbrev pub EventsKeepRequestsNumbered : Type 0
EventsKeepRequestsNumbered =
    (config : Config) (w : WorldState) → IsTrue w.observer.are_clocks_kept → (e : Event) (choice : Choice) → RequestsStayNumbered config w (happens w e choice).world
