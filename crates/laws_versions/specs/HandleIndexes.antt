-- Laws of every lawful list of events on where handles stand in files, that public functions of this crate state.
use Rattle.std.specs.Prelude.{◌≡◌, ◌⊎◌, ℕ, List, Some, IsTrue}
use Rattle.gfs_types.specs.declared.config.Config.{Config}
use Rattle.messages.specs.declared.event.Event.{Event}
use Rattle.chunk_table.specs.ChunkTable.{handles_of}
use Rattle.protocol.specs.Tables.{element_at}
use Rattle.protocol.specs.Choice.{Choice}
use Rattle.protocol.specs.Logged.{replayed}
use Rattle.messages.specs.declared.message.Location.{Location}
use Rattle.protocol.specs.Observer.{Placed, order_of}
use Rattle.protocol.specs.World.{WorldState, new_world, happens, after_events, IsReached}
use Rattle.laws_base.specs.ChunkOrders.{IsCopiedNow, HasMutate}
use Rattle.laws_versions.specs.ReplacedChunks.{IsToldAt}

-- This chunk stands at this index of the file, in the log, or at a master that is up.
abbrev pub StandsAtIndex : WorldState → ℕ → ℕ → ℕ → Type 0
StandsAtIndex w file index handle = (element_at (handles_of (replayed w.master.disk).table file) index ≡ Some handle) ⊎ (IsTrue w.master.up × (element_at (handles_of w.master.logged.table file) index ≡ Some handle))

-- A handle stands at one index in all files (section 3.4).
abbrev pub HandlesStandAtOneIndex : Type 0
HandlesStandAtOneIndex =
    (config : Config) (servers clients : ℕ) (w : WorldState) → IsReached config servers clients w
    → (handle file index other later : ℕ) → StandsAtIndex w file index handle → StandsAtIndex w other later handle → index ≡ later

-- Where a handle stood at a master that was up, at that index, or nowhere, it stands in all files for all time: a chunk that is added, or copied, has a new handle; a snapshot copies lists as they are; and a copy takes its source's place (section 3.4).
abbrev pub HandlesKeepTheirIndex : Type 0
HandlesKeepTheirIndex =
    (config : Config) (servers clients : ℕ) (w : WorldState) → IsReached config servers clients w → IsTrue w.master.up
    → (handle file index : ℕ) → element_at (handles_of w.master.logged.table file) index ≡ Some handle
    → (steps : List (Event × Choice)) (other later : ℕ) → StandsAtIndex (after_events w steps) other later handle → index ≡ later

-- A copy stands, for all time, nowhere but at the index at which its source stood: it takes its source's place (section 3.4).
abbrev pub CopiesStandAtTheirSourcesIndex : Type 0
CopiesStandAtTheirSourcesIndex =
    (config : Config) (servers clients : ℕ) (w : WorldState) → IsReached config servers clients w → IsTrue w.master.up
    → (handle file index : ℕ) → element_at (handles_of w.master.logged.table file) index ≡ Some handle
    → (before : List (Event × Choice)) (step : Event × Choice) (copy : ℕ) → IsCopiedNow (after_events w before) (happens (after_events w before) step.0 step.1) handle copy
    → (more : List (Event × Choice)) (other later : ℕ) → StandsAtIndex (after_events (happens (after_events w before) step.0 step.1).world more) other later copy → index ≡ later

-- Where clocks are kept, each entry stems from a Mutate of its client, and wherever the chunk stands in whose order it is, it stands at the index for which the chunk that this Mutate names was told, to whichever client (section 3.4).
abbrev pub EntriesStandAtTheirToldIndex : Type 0
EntriesStandAtTheirToldIndex =
    (config : Config) (servers clients : ℕ) (steps : List (Event × Choice)) → IsTrue (after_events (new_world config servers clients) steps).observer.are_clocks_kept
    → (handle place : ℕ) (p : Placed) → element_at (order_of (after_events (new_world config servers clients) steps).observer handle) place ≡ Some p
    → (named : ℕ) × HasMutate (after_events (new_world config servers clients) steps).sent named p
    × ((client file spot : ℕ) (l : Location) → IsToldAt (after_events (new_world config servers clients) steps).sent client file l spot → l.handle.0 ≡ named
    → (other later : ℕ) → StandsAtIndex (after_events (new_world config servers clients) steps) other later handle → later ≡ l.index)
