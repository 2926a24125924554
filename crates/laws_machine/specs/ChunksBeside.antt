-- The machine's chunks beside a world: the log's chunks, the observer's orders, the rounds of the leases and what was told of them, from each world to the next (sections 2.4, 3.1 and 3.4).
use Rattle.std.specs.Prelude.{◌≡◌, ℕ, List, None, IsTrue}
use Rattle.std.specs.List.{list_all}
use Rattle.gfs_types.specs.declared.config.Config.{Config}
use Rattle.gfs_types.specs.declared.ids.Node.TheVariants.{Master}
use Rattle.messages.specs.declared.event.Event.{Event}
use Rattle.messages.specs.declared.event.Event.TheVariants as event
use Rattle.relaxed_file.specs.Machine.{Machine, new_machine}
use Rattle.relaxed_file.specs.Run.{Action, IsLawful, after_all}
use Rattle.relaxed_file.specs.Run as run
use Rattle.protocol.specs.Choice.{Choice}
use Rattle.protocol.specs.World.{WorldState, new_world, happens, IsReached, is_kept}
use Rattle.laws_base.specs.Versions.{IsLeaseOver}
use Rattle.laws_machine.specs.ChunksAlike.{ChunkSides, AreChunksAlike, KeepsRounds, HasRounds, moved}
use Rattle.laws_machine.specs.Rounds.{IsLogOf, IsMastersStep, IsEnded, SentGrantsAreOpen}
use Rattle.laws_machine.specs.ServerSteps.{is_of_entries, AreForOpenCalls, AreGoneOrdersAlike}
use Rattle.laws_machine.specs.ShownChunks.{AreShownStanding}
use Rattle.laws_machine.specs.ToldHolders.{AreHoldersTold, HoldersMayGoOn}
use Rattle.laws_machine.specs.ToldRounds.{AreToldRounds}
use Rattle.laws_machine.specs.Tries.{AddsNumberedTries}
use Rattle.laws_machine.specs.RoundSizes.{AreRoundsSized}

-- The machine's chunks are those of the master's log, with the orders that are seen; also of handles that are gone; the round of each lease that isn't over is open, and so is each that was told, in the file's chunk of its index; each holder that was told may be read; and each chunk that is shown stands for the machine's.
pub record AreChunksBeside (config : Config) (w : WorldState) (k : ChunkSides) : Type 0 where
  pub settings : k.machine.config ≡ config
  pub log : IsLogOf w.master k.log
  pub orders : k.orders ≡ w.observer.orders
  pub alike : AreChunksAlike k
  pub rounds : HasRounds (IsLeaseOver w) k
  pub told : AreToldRounds w k
  pub gone : AreGoneOrdersAlike k
  pub holders : AreHoldersTold w k
  pub shown : AreShownStanding w k

-- So it is of a new cell and a new machine.
abbrev pub NewChunksAreBeside : Type 0
NewChunksAreBeside =
    (config : Config) (servers clients : ℕ)
    → AreChunksBeside config (new_world config servers clients)
    (record { log = (new_world config servers clients).master.logged; gone = λ handle. None; orders = (new_world config servers clients).observer.orders; machine = new_machine config })

-- Whatever the machine does that leaves its files, keeps it.
abbrev pub SameFilesKeepChunksBeside : Type 0
SameFilesKeepChunksBeside =
    (config : Config) (w : WorldState) (k : ChunkSides) (m : Machine) → AreChunksBeside config w k → m.config ≡ k.machine.config → m.files ≡ k.machine.files → AreChunksBeside config w (record k { machine = m })

-- a message, a tick or a restart of the master
abbrev pub IsMastersEvent : WorldState → Event → Type 0
IsMastersEvent w (event.Restart n now) = n ≡ Master
IsMastersEvent w e = IsMastersStep w e

-- Where clocks and disks are kept, at each other event the machine places and settles what was seen, and it is so again; what was numbered is the only try that comes.
abbrev pub OtherEventsKeepChunksBeside : Type 0
OtherEventsKeepChunksBeside =
    (config : Config) (servers clients : ℕ) (w : WorldState) → IsReached config servers clients w → IsTrue (is_kept w)
    → (e : Event) (choice : Choice) → IsTrue (happens w e choice).world.observer.are_clocks_kept → (IsMastersEvent w e → ⊥)
    → (k : ChunkSides) → run.IsReached config k.machine → AreChunksBeside config w k → AreRoundsSized w k → AreForOpenCalls w k
    → (actions : List Action) × IsTrue (list_all is_of_entries actions) × IsLawful k.machine actions
    × AreChunksBeside config (happens w e choice).world (moved k actions k.log k.gone (happens w e choice).world.observer.orders)
    × AddsNumberedTries w (happens w e choice).world k (after_all k.machine actions)

-- Where clocks are kept, at an event of the master it is so again, where the machine followed the log: chunks are alike, also of gone handles, rounds ended only of chunks whose leases are over, what was granted has its round open, and holders may go on.
abbrev pub MastersEventsKeepChunksBeside : Type 0
MastersEventsKeepChunksBeside =
    (config : Config) (servers clients : ℕ) (w : WorldState) → IsReached config servers clients w → (e : Event) (choice : Choice) → IsTrue (happens w e choice).world.observer.are_clocks_kept
    → (k j : ChunkSides) → AreChunksBeside config w k
    → j.machine.config ≡ config → IsLogOf (happens w e choice).world.master j.log → j.orders ≡ (happens w e choice).world.observer.orders → AreChunksAlike j → AreGoneOrdersAlike j
    → KeepsRounds (IsEnded w (happens w e choice).world) k j → SentGrantsAreOpen w (happens w e choice).world j
    → IsMastersEvent w e → HoldersMayGoOn w (happens w e choice).world k j
    → AreChunksBeside config (happens w e choice).world j
