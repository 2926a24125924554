-- The sizes of the machine's open rounds: each is the one that the Grant of the lease told, from each world to the next (sections 3.1 and 3.4).
use Rattle.std.specs.Prelude.{◌≡◌, ◌⊎◌, ℕ, suc, ◌≤◌, IsTrue}
use Rattle.gfs_types.specs.declared.config.Config.{Config}
use Rattle.messages.specs.declared.event.Event.{Event}
use Rattle.relaxed_file.specs.Machine.{chunk_size}
use Rattle.relaxed_file.specs.Run.{LeadsTo}
use Rattle.relaxed_file.specs.Run as run
use Rattle.protocol.specs.Choice.{Choice}
use Rattle.protocol.specs.World.{WorldState, happens, IsReached}
use Rattle.protocol_invariant.specs.Actions.{Spot}
use Rattle.laws_base.specs.Laws.{IsSizeGranted, grants_of}
use Rattle.laws_base.specs.Versions.{IsLeaseOver}
use Rattle.laws_machine.specs.ChunksAlike.{ChunkSides, IsRoundOpen, AreChunksAlike}

-- the round is open at a place of a file whose chunks have this size
abbrev pub IsOpenWithSize : ChunkSides → (handle version size : ℕ) → Type 0
IsOpenWithSize k handle version size = (s : Spot) × IsRoundOpen k handle version s × (size ≡ chunk_size k.machine s.file)

-- Where the lease of a Grant isn't over, its round is open with the size that the Grant told, also where the file was collected.
abbrev pub AreRoundsSized : WorldState → ChunkSides → Type 0
AreRoundsSized w k = (handle version size : ℕ) → IsSizeGranted w.sent handle version size → IsLeaseOver w handle version ⊎ IsOpenWithSize k handle version size

-- Where clocks are kept, from one world to the next it is so again, however the machine goes on, where each round that was granted before stays open at its place or its lease is over, and what is granted anew is so.
abbrev pub RoundSizesGoOn : Type 0
RoundSizesGoOn =
    (config : Config) (servers clients : ℕ) (w : WorldState) → IsReached config servers clients w → (e : Event) (choice : Choice) → IsTrue (happens w e choice).world.observer.are_clocks_kept
    → (k j : ChunkSides) → run.IsReached config k.machine → LeadsTo k.machine j.machine → AreChunksAlike k → k.log.next_file ≤ suc k.machine.file_count
    → ((handle version : ℕ) (s : Spot) → 1 ≤ grants_of handle version w.sent → IsRoundOpen k handle version s → IsLeaseOver (happens w e choice).world handle version ⊎ IsRoundOpen j handle version s)
    → ((handle version size : ℕ) → grants_of handle version w.sent ≡ 0 → IsSizeGranted (happens w e choice).world.sent handle version size
    → IsLeaseOver (happens w e choice).world handle version ⊎ IsOpenWithSize j handle version size)
    → AreRoundsSized w k → AreRoundsSized (happens w e choice).world j

-- Where clocks are kept, a Grant tells a size of 64 bytes at least, and the settings' at most (sections 2.3 and 3.1).
abbrev pub GrantedSizesFitTheSettings : Type 0
GrantedSizesFitTheSettings =
    (config : Config) (servers clients : ℕ) (w : WorldState) → IsReached config servers clients w → IsTrue w.observer.are_clocks_kept
    → (handle version size : ℕ) → IsSizeGranted w.sent handle version size → (64 ≤ size) × (size ≤ config.chunk)
