-- What a step of the master that grants a version of a chunk leaves (sections 3.1 and 3.4).
use Rattle.std.specs.Prelude.{◌≡◌, ℕ, List, Some, IsTrue}
use Rattle.gfs_types.specs.declared.config.Config.{Config}
use Rattle.messages.specs.declared.event.Event.{Event}
use Rattle.chunk_table.specs.ChunkTable.{ChunkRow, chunk_of, file_of}
use Rattle.protocol.specs.Choice.{Choice}
use Rattle.protocol.specs.Logged.{Logged}
use Rattle.protocol.specs.World.{WorldState, happens, IsReached}
use Rattle.laws_machine.specs.GrantedRecords.{IsAttempted}
use Rattle.headline.specs.RoundsApart.{IsNewGrant}

-- each file is there still
abbrev pub KeepsFiles : Logged → Logged → Type 0
KeepsFiles l k = (file : ℕ) (handles : List ℕ) → file_of l.table file ≡ Some handles → (after : List ℕ) × (file_of k.table file ≡ Some after)

-- Where clocks are kept, a version of a chunk that is granted at an event was attempted before; the chunk has its row after the event, and no file is collected at it.
abbrev pub GrantedChunksStay : Type 0
GrantedChunksStay =
    (config : Config) (servers clients : ℕ) (w : WorldState) → IsReached config servers clients w → IsTrue w.observer.are_clocks_kept → (e : Event) (choice : Choice)
    → (handle version : ℕ) → IsNewGrant w (happens w e choice).world handle version
    → IsTrue w.master.up × IsAttempted w.master handle version × ((row : ChunkRow) × (chunk_of (happens w e choice).world.master.logged.table handle ≡ Some row)) × KeepsFiles w.master.logged (happens w e choice).world.master.logged
