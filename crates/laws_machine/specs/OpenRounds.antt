-- Where clocks are kept, the rounds that are open at the machine go with the leases: in each world that is reached the round of each lease which isn't over is open, and so the one under which a server numbers a mutation (section 3.1).
use Rattle.std.specs.Prelude.{◌≡◌, ◌⊎◌, ℕ, ◌≤◌, Some, IsTrue}
use Rattle.gfs_types.specs.declared.config.Config.{Config}
use Rattle.messages.specs.declared.event.Event.{Event}
use Rattle.primary_order.specs.SerialOrder.{SerialOrder}
use Rattle.chunk_table.specs.ChunkTable.{ChunkRow, chunk_of}
use Rattle.protocol.specs.Choice.{Choice}
use Rattle.protocol.specs.Tables.{element_at}
use Rattle.protocol.specs.Server.{ServerState, primary_of}
use Rattle.protocol.specs.ServerStep.{server_at}
use Rattle.protocol.specs.Observer.{observed_moment}
use Rattle.protocol.specs.World.{WorldState, IsReached, happens}
use Rattle.laws_base.specs.Laws.{HasAllReferences, grants_of}
use Rattle.laws_base.specs.Versions.{IsLeaseOver, AreLeasesOver}
use Rattle.protocol_invariant.specs.Actions.{Spot}
use Rattle.laws_machine.specs.ChunksAlike.{ChunkSides, StandsAt, IsRoundOpen, AreChunksAlike, KeepsRounds, HasRounds}
use Rattle.laws_machine.specs.EntrySteps.{StandsNowhereElse}

-- what was granted by an event has its round open
abbrev pub NewRoundsAreOpen : WorldState → WorldState → ChunkSides → Type 0
NewRoundsAreOpen w then_ j = (handle version : ℕ) → grants_of handle version w.sent ≡ 0 → 1 ≤ grants_of handle version then_.sent → (s : Spot) × IsRoundOpen j handle version s

-- Where rounds end at an event only of chunks whose leases are over, before it or after it, and what it grants has its round open, the round of each lease that isn't over is open again.
abbrev pub RoundsGoWithLeases : Type 0
RoundsGoWithLeases =
    (config : Config) (servers clients : ℕ) (w : WorldState) → IsReached config servers clients w → (e : Event) (choice : Choice) → IsTrue (happens w e choice).world.observer.are_clocks_kept
    → (k j : ChunkSides) → HasRounds (IsLeaseOver w) k → KeepsRounds (λ handle. AreLeasesOver w handle ⊎ AreLeasesOver (happens w e choice).world handle) k j
    → NewRoundsAreOpen w (happens w e choice).world j → HasRounds (IsLeaseOver (happens w e choice).world) j

-- The round under which a server may number a mutation is open.
abbrev pub CountingRoundsAreOpen : Type 0
CountingRoundsAreOpen =
    (config : Config) (servers clients : ℕ) (w : WorldState) → IsReached config servers clients w → (k : ChunkSides) → HasRounds (IsLeaseOver w) k
    → (moment : ℕ) → IsTrue (observed_moment w.config.skew_ms w.observer moment).are_clocks_kept
    → (index : ℕ) (s : ServerState) → element_at w.servers index ≡ Some s → (handle version : ℕ) (p : SerialOrder) → primary_of (server_at s moment) handle version ≡ Some p
    → (at : Spot) × IsRoundOpen k handle version at

-- A chunk of one owner stands at one place at most (section 3.4).
abbrev pub ChunksOfOneOwnerStandOnce : Type 0
ChunksOfOneOwnerStandOnce =
    (k : ChunkSides) (handle : ℕ) (row : ChunkRow) → HasAllReferences k.log.table → chunk_of k.log.table handle ≡ Some row → row.references ≤ 1 → StandsNowhereElse k handle

-- The round of a chunk that stands at one place alone is open there, or its lease is over: what the master tells of the place is told of this round.
abbrev pub RoundsAreOpenAtTheirPlace : Type 0
RoundsAreOpenAtTheirPlace =
    (w : WorldState) (k : ChunkSides) → AreChunksAlike k → HasRounds (IsLeaseOver w) k → (handle version : ℕ) (s : Spot) → StandsNowhereElse k handle → StandsAt k.log.table handle s
    → IsLeaseOver w handle version ⊎ IsRoundOpen k handle version s
