-- Where clocks and disks are kept, the whole machine stays beside the world at an event of the master: a step that goes through, that is lost, that stops or that its limits refuse; a restart; and where it is down (sections 2.4, 2.6.3, 3.1, 3.4 and 4.1).
use Rattle.std.specs.Prelude.{◌≡◌, ℕ, ◌<◌, ◌≤◌, List, IsTrue}
use Rattle.gfs_types.specs.declared.config.Config.{Config}
use Rattle.messages.specs.declared.event.Event.{Event}
use Rattle.messages.specs.declared.event.NodeInput.{NodeInput}
use Rattle.relaxed_file.specs.Machine.{Machine, chunk_at, chunk_count}
use Rattle.relaxed_file.specs.Run.{LeadsTo, IsRunTo}
use Rattle.protocol.specs.Choice.{Choice, Goes}
use Rattle.protocol.specs.Master.{PendingSnapshot}
use Rattle.protocol.specs.MasterStep.{master_goes}
use Rattle.protocol.specs.World.{WorldState, happens, IsReached, is_kept}
use Rattle.protocol.specs.Explained.{AreSettings}
use Rattle.laws_machine.specs.ChunksAlike.{ChunkSides, AreChunksAlike, KeepsRounds}
use Rattle.laws_machine.specs.Rounds.{IsLogOf, IsEnded, IsMastersInput, SentGrantsAreOpen}
use Rattle.laws_machine.specs.ServerSteps.{AreGoneOrdersAlike}
use Rattle.laws_machine.specs.ChunksBeside.{AreChunksBeside, IsMastersEvent}
use Rattle.laws_machine.specs.ToldHolders.{HoldersMayGoOn}
use Rattle.laws_machine.specs.MasterSteps.{HasFilesOf}
use Rattle.laws_machine.specs.WholeSteps.{AreAskedFor}
use Rattle.laws_machine.specs.WholeWorlds.{AreFileClients, IsBeside, IsWholeWorld}
use Rattle.laws_machine.specs.MastersEvents.{AreOffersSo, IsGoneFrom}

-- Holders that were told may go on, wherever the machine is beside the master's log again: it left the orders of the chunks that there were, handles that are gone stood where they stood before, and no handle is used again.
abbrev pub HoldersGoOnWhere : Config → WorldState → WorldState → Type 0
HoldersGoOnWhere config w then_ =
    (ss : List PendingSnapshot) (k j : ChunkSides) → IsBeside config w ss k
    → j.machine.config ≡ config → IsLogOf then_.master j.log → j.orders ≡ then_.observer.orders → AreChunksAlike j → AreGoneOrdersAlike j
    → KeepsRounds (IsEnded w then_) k j → SentGrantsAreOpen w then_ j → IsGoneFrom k j
    → ((file index : ℕ) → index < chunk_count k.machine file → (index < chunk_count j.machine file) × ((chunk_at j.machine file index).order ≡ (chunk_at k.machine file index).order))
    → k.log.next_handle ≤ j.log.next_handle
    → HoldersMayGoOn w then_ k j

-- What an event of the master asks: each chunk that it adds is asked for; holders may go on; and the machine may offer what a step tells that goes through.
pub record AreMastersTrue (config : Config) (w then_ : WorldState) (e : Event) (choice : Choice) : Type 0 where
  pub asked : (moment : ℕ) (i : NodeInput) → IsMastersInput w e moment i → IsTrue w.master.up → (ss : List PendingSnapshot) (k : ChunkSides) → IsBeside config w ss k
      → (m : Machine) → LeadsTo k.machine m → AreAskedFor m w.observer.orders w.master.disk (master_goes w.master moment i choice.refused).changes
  pub holders : HoldersGoOnWhere config w then_
  pub offers : (moment : ℕ) (i : NodeInput) → IsMastersInput w e moment i → IsTrue w.master.up → choice.ending ≡ Goes → (ss : List PendingSnapshot) (k j : ChunkSides) → IsBeside config w ss k → LeadsTo k.machine j.machine → IsRunTo config then_.observer.trace j.machine → AreChunksBeside config then_ j
      → HasFilesOf j.log j.machine → AreFileClients w.clients j.machine → AreOffersSo w then_ j.machine

-- An event of the master keeps all so.
abbrev pub MastersEventsKeepWorldsWhole : Type 0
MastersEventsKeepWorldsWhole =
    (config : Config) (servers clients : ℕ) (w : WorldState) → AreSettings config → IsReached config servers clients w → IsTrue (is_kept w)
    → (e : Event) (choice : Choice) → IsTrue (happens w e choice).world.observer.are_clocks_kept → IsMastersEvent w e → AreMastersTrue config w (happens w e choice).world e choice
    → IsWholeWorld config w → IsWholeWorld config (happens w e choice).world
