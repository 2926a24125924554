-- What a step of the master tells clients of chunks is so at the whole machine, which offers it; and no chunk is told that ends past the counters' limit (sections 2.4, 2.7.1 and 3.1).
use Rattle.std.specs.Prelude.{ℕ, List, IsTrue}
use Rattle.gfs_types.specs.declared.config.Config.{Config}
use Rattle.messages.specs.declared.event.Event.{Event}
use Rattle.messages.specs.declared.event.NodeInput.{NodeInput}
use Rattle.relaxed_file.specs.Run.{LeadsTo, IsRunTo}
use Rattle.protocol.specs.Choice.{Choice}
use Rattle.protocol.specs.Master.{PendingSnapshot}
use Rattle.protocol.specs.World.{WorldState, happens, IsReached}
use Rattle.headline.specs.Answers.{AreToldPlacesWithin}
use Rattle.laws_machine.specs.ChunksAlike.{ChunkSides}
use Rattle.laws_machine.specs.ChunksBeside.{AreChunksBeside}
use Rattle.laws_machine.specs.MastersEvents.{AreOffersSo}
use Rattle.laws_machine.specs.MasterSteps.{HasFilesOf}
use Rattle.laws_machine.specs.Rounds.{IsMastersInput}
use Rattle.laws_machine.specs.WholeWorlds.{AreFileClients, IsBeside}

-- Of a machine that goes on from one beside the world and has the chunks of the master's log after the step, and just the files that this log has: it may offer what the step told clients, and then all that the step told them is so.
abbrev pub OffersAreSo : Type 0
OffersAreSo =
    (config : Config) (servers clients : ℕ) (w : WorldState) → IsReached config servers clients w
    → (e : Event) (choice : Choice) (moment : ℕ) (i : NodeInput) → IsMastersInput w e moment i → IsTrue w.master.up
    → (ss : List PendingSnapshot) (k j : ChunkSides) → IsBeside config w ss k → LeadsTo k.machine j.machine
    → IsRunTo config (happens w e choice).world.observer.trace j.machine → AreChunksBeside config (happens w e choice).world j → HasFilesOf j.log j.machine → AreFileClients w.clients j.machine → AreOffersSo w (happens w e choice).world j.machine

-- Each chunk that a client was told ends within the counters' limit.
abbrev pub ToldPlacesAreWithin : Type 0
ToldPlacesAreWithin = (config : Config) (servers clients : ℕ) (w : WorldState) → IsReached config servers clients w → AreToldPlacesWithin config w
