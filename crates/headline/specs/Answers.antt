-- What a server answers a client that waits is so at the whole machine, which looks at the chunk for it (sections 2.4, 2.7.1, 3.1 and 3.3).
use Rattle.std.specs.Prelude.{◌≡◌, ℕ, suc, ◌*◌, ◌≤◌, List, Some, IsTrue}
use Rattle.gfs_types.specs.declared.config.Config.{Config}
use Rattle.gfs_types.specs.declared.ids.DataId.{DataId}
use Rattle.gfs_types.specs.declared.ids.Handle.{Handle}
use Rattle.gfs_types.specs.declared.ids.Moment.{Moment}
use Rattle.gfs_types.specs.declared.ids.Version.{Version}
use Rattle.messages.specs.declared.event.Event.{Event}
use Rattle.messages.specs.declared.message.Body.TheVariants as body
use Rattle.messages.specs.declared.message.Location.{Location}
use Rattle.messages.specs.declared.message.Message.{Message}
use Rattle.messages.specs.declared.message.Target.{Target}
use Rattle.relaxed_file.specs.Run.{IsRunTo}
use Rattle.gfs_types.specs.Counters.{counter_limit}
use Rattle.protocol.specs.Tables.{element_at}
use Rattle.protocol.specs.Choice.{Choice}
use Rattle.protocol.specs.World.{WorldState, happens, IsReached, is_kept}
use Rattle.laws_base.specs.Reads.{IsTold}
use Rattle.laws_base.specs.Entries.{IsPushed}
use Rattle.laws_machine.specs.ChunksAlike.{ChunkSides}
use Rattle.laws_machine.specs.ChunksBeside.{AreChunksBeside}
use Rattle.laws_machine.specs.WholeWorlds.{AreFileClients, IsServersEvent, AreAnswersSo}

-- Each chunk that a client was told ends within the counters' limit, so its places are within 64 bits.
abbrev pub AreToldPlacesWithin : Config → WorldState → Type 0
AreToldPlacesWithin config w = (client file : ℕ) (l : Location) → IsTold w.sent client file l → suc l.index * config.chunk ≤ counter_limit

-- Each Mutate that was sent is of data that their client pushed.
abbrev pub AreMutatesOfPushedData : List Message → Type 0
AreMutatesOfPushedData sent =
    (place : ℕ) (m : Message) → element_at sent place ≡ Some m → (id : DataId) (handle : Handle) (version : Version) (aim : Target) (deadline : Moment) → m.body ≡ body.Mutate id handle version aim deadline
    → (bytes : List ℕ) × IsPushed sent id bytes

abbrev pub MutatesAreOfPushedData : Type 0
MutatesAreOfPushedData = (config : Config) (servers clients : ℕ) (w : WorldState) → IsReached config servers clients w → AreMutatesOfPushedData w.sent

-- Where clocks and disks are kept, whatever an event of a server says to a client that waits is so: the machine, which has the orders that are seen after the event, may take a look or a measure for it.
abbrev pub AnswersAreSo : Type 0
AnswersAreSo =
    (config : Config) (servers clients : ℕ) (w : WorldState) → IsReached config servers clients w → IsTrue (is_kept w)
    → (e : Event) (choice : Choice) → IsTrue (happens w e choice).world.observer.are_clocks_kept → IsServersEvent w e → AreToldPlacesWithin config w
    → (j : ChunkSides) → IsRunTo config w.observer.trace j.machine → AreChunksBeside config (happens w e choice).world j → AreFileClients w.clients j.machine
    → AreAnswersSo w (happens w e choice).world j.machine
