-- The law of every lawful list of events on where entries lie, that a public function of this crate states.
use Rattle.std.specs.Prelude.{◌≡◌, ◌≤◌, ◌<◌, ◌+◌, ℕ, min, List, length, Some}
use Rattle.gfs_types.specs.declared.config.Config.{Config}
use Rattle.gfs_types.specs.declared.mutation.Mutation.{Mutation}
use Rattle.gfs_types.specs.declared.mutation.Mutation.TheVariants.{Write, Append, Pad}
use Rattle.messages.specs.declared.event.Event.{Event}
use Rattle.protocol.specs.Tables.{element_at}
use Rattle.protocol.specs.Choice.{Choice}
use Rattle.protocol.specs.Observer.{Placed, order_of}
use Rattle.protocol.specs.World.{new_world, after_events}
use Rattle.laws_base.specs.Laws.{IsSizeGranted}

-- it lies within a chunk of this size; a pad begins in it, and ends where it ends
abbrev pub LiesWithin : ℕ → Mutation → Type 0
LiesWithin size (Write offset bytes) = offset + length bytes ≤ size
LiesWithin size (Append offset bytes) = offset + length bytes ≤ size
LiesWithin size (Pad offset end) = (offset < size) × (end ≡ size)

-- Each entry of a chunk's order lies within a size that a Grant of its round told, of whichever chunk, and within a slot (sections 2.3, 3.3 and 3.4).
abbrev pub EntriesLieWithinTheChunk : Type 0
EntriesLieWithinTheChunk =
    (config : Config) (servers clients : ℕ) (steps : List (Event × Choice)) (handle place : ℕ) (p : Placed)
    → element_at (order_of (after_events (new_world config servers clients) steps).observer handle) place ≡ Some p
    → (from size : ℕ) × IsSizeGranted (after_events (new_world config servers clients) steps).sent from p.entry.round size × LiesWithin (min size config.chunk) p.entry.mutation
