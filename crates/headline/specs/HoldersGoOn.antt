-- Holders that were told may go on over an event of the master: what stood for a chunk does so still, rounds are apart, and what is told anew is so (sections 2.4, 2.7, 3.1 and 3.4).
use Rattle.std.specs.Prelude.{◌≡◌, ℕ, ◌<◌, ◌≤◌, length, IsTrue}
use Rattle.gfs_types.specs.declared.config.Config.{Config}
use Rattle.messages.specs.declared.event.Event.{Event}
use Rattle.messages.specs.declared.message.Location.{Location}
use Rattle.relaxed_file.specs.Machine.{chunk_at, chunk_count}
use Rattle.protocol.specs.Choice.{Choice}
use Rattle.protocol.specs.World.{WorldState, happens, IsReached}
use Rattle.laws_base.specs.Reads.{IsTold}
use Rattle.laws_machine.specs.ChunksAlike.{ChunkSides, StandsAt, AreChunksAlike, KeepsRounds}
use Rattle.laws_machine.specs.Rounds.{IsLogOf, IsEnded}
use Rattle.laws_machine.specs.ServerSteps.{AreGoneOrdersAlike}
use Rattle.laws_machine.specs.ToldHolders.{IsToldVersion, HoldersMayGoOn}
use Rattle.laws_machine.specs.ChunksBeside.{AreChunksBeside}
use Rattle.headline.specs.RoundsApart.{AreGrantsApart}

-- Where clocks are kept, what is told at an event, also of a chunk that was just added, stands at its place in the file after it; the master was up, and is.
abbrev pub ToldChunksStandAfter : Type 0
ToldChunksStandAfter =
    (config : Config) (servers clients : ℕ) (w : WorldState) → IsReached config servers clients w → IsTrue w.observer.are_clocks_kept → (e : Event) (choice : Choice)
    → (client file : ℕ) (l : Location) (t : IsTold (happens w e choice).world.sent client file l) → length w.sent ≤ (t.sent_is).0
    → IsTrue w.master.up × IsTrue (happens w e choice).world.master.up × StandsAt (happens w e choice).world.master.logged.table l.handle.0 (record { file = file; index = l.index })

-- Where clocks are kept, the rounds that are granted at an event are apart from what was told before, up to each version that was told.
abbrev pub NewGrantsAreApart : Type 0
NewGrantsAreApart =
    (config : Config) (servers clients : ℕ) (w : WorldState) → IsReached config servers clients w → (e : Event) (choice : Choice) → IsTrue (happens w e choice).world.observer.are_clocks_kept
    → (j : ChunkSides) → IsLogOf (happens w e choice).world.master j.log → AreChunksAlike j
    → (client file : ℕ) (l : Location) → IsTold w.sent client file l → (version : ℕ) → IsToldVersion l version → AreGrantsApart w (happens w e choice).world j l.handle.0 version (record { file = file; index = l.index })

-- Where clocks are kept, holders that were told may go on over each event after which chunks are alike again, where rounds ended only of chunks whose leases are over, the machine left the orders of the chunks that there were, and no handle is used again.
abbrev pub HoldersGoOn : Type 0
HoldersGoOn =
    (config : Config) (servers clients : ℕ) (w : WorldState) → IsReached config servers clients w → (e : Event) (choice : Choice) → IsTrue (happens w e choice).world.observer.are_clocks_kept
    → (k j : ChunkSides) → AreChunksBeside config w k → IsLogOf (happens w e choice).world.master j.log → AreChunksAlike j → AreGoneOrdersAlike j → KeepsRounds (IsEnded w (happens w e choice).world) k j
    → ((file index : ℕ) → index < chunk_count k.machine file → (index < chunk_count j.machine file) × ((chunk_at j.machine file index).order ≡ (chunk_at k.machine file index).order))
    → k.log.next_handle ≤ j.log.next_handle → HoldersMayGoOn w (happens w e choice).world k j
