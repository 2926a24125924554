-- What clients were told of chunks stands at the machine: the round of each location is open in the file's chunk of its index, or its lease is over (sections 2.4, 3.1 and 3.4).
use Rattle.std.specs.Prelude.{◌≡◌, ◌⊎◌, ℕ, List, Some, IsTrue}
use Rattle.gfs_types.specs.declared.config.Config.{Config}
use Rattle.messages.specs.declared.event.Event.{Event}
use Rattle.messages.specs.declared.message.Location.{Location}
use Rattle.primary_order.specs.SerialOrder.{SerialOrder}
use Rattle.protocol.specs.Choice.{Choice}
use Rattle.protocol.specs.Tables.{element_at}
use Rattle.protocol.specs.Server.{ServerState, primary_of}
use Rattle.protocol.specs.ServerStep.{server_at}
use Rattle.protocol.specs.Observer.{observed_moment}
use Rattle.protocol.specs.World.{WorldState, new_world, happens, after_events, IsReached}
use Rattle.laws_base.specs.Versions.{IsLeaseOver}
use Rattle.laws_versions.specs.ReplacedChunks.{IsToldAt}
use Rattle.protocol_invariant.specs.Actions.{Spot}
use Rattle.laws_machine.specs.ChunksAlike.{ChunkSides, IsRoundOpen, AreChunksAlike, KeepsRounds, HasRounds}
use Rattle.laws_machine.specs.Rounds.{IsLogOf, IsEnded}

-- The round that was told is over, or open at the machine in the file's chunk of the told index.
abbrev pub IsToldRound : WorldState → ChunkSides → ℕ → Location → Type 0
IsToldRound w k file l = IsLeaseOver w l.handle.0 l.round.0 ⊎ IsRoundOpen k l.handle.0 l.round.0 (record { file = file; index = l.index })

-- So it is of each location with a granted round that a client was told for its ask for a chunk of the file.
abbrev pub AreToldRounds : WorldState → ChunkSides → Type 0
AreToldRounds w k = (client file : ℕ) (l : Location) (place : ℕ) → IsToldAt w.sent client file l place → IsToldRound w k file l

-- While nothing was told it is so.
abbrev pub NoRoundIsToldAtFirst : Type 0
NoRoundIsToldAtFirst = (config : Config) (servers clients : ℕ) (k : ChunkSides) → AreToldRounds (new_world config servers clients) k

-- A told round whose lease is over stays over in all that follows, as long as clocks are kept.
abbrev pub ToldRoundsStayOver : Type 0
ToldRoundsStayOver =
    (config : Config) (servers clients : ℕ) (w : WorldState) → IsReached config servers clients w → (client file : ℕ) (l : Location) (place : ℕ) → IsToldAt w.sent client file l place
    → IsLeaseOver w l.handle.0 l.round.0 → (steps : List (Event × Choice)) → IsTrue (after_events w steps).observer.are_clocks_kept → IsLeaseOver (after_events w steps) l.handle.0 l.round.0

-- Where clocks are kept, from one world to the next told rounds stay so, and what is told anew is so: where chunks are alike, the round of each lease that isn't over is open before, and rounds end only of chunks whose leases are over.
abbrev pub ToldRoundsGoOn : Type 0
ToldRoundsGoOn =
    (config : Config) (servers clients : ℕ) (w : WorldState) → IsReached config servers clients w → (e : Event) (choice : Choice) → IsTrue (happens w e choice).world.observer.are_clocks_kept
    → (k j : ChunkSides) → IsLogOf w.master k.log → AreChunksAlike k → HasRounds (IsLeaseOver w) k → KeepsRounds (IsEnded w (happens w e choice).world) k j
    → AreToldRounds w k → AreToldRounds (happens w e choice).world j

-- Where clocks are kept, the round under which a server may number a mutation is open at the place for which a client was told it, and nowhere else.
abbrev pub CountingRoundsAreOpenWhereTold : Type 0
CountingRoundsAreOpenWhereTold =
    (config : Config) (servers clients : ℕ) (w : WorldState) → IsReached config servers clients w → IsTrue w.observer.are_clocks_kept
    → (k : ChunkSides) → IsLogOf w.master k.log → AreChunksAlike k → AreToldRounds w k
    → (moment : ℕ) → IsTrue (observed_moment w.config.skew_ms w.observer moment).are_clocks_kept
    → (index : ℕ) (s : ServerState) → element_at w.servers index ≡ Some s → (handle version : ℕ) (p : SerialOrder) → primary_of (server_at s moment) handle version ≡ Some p
    → (client file : ℕ) (l : Location) (place : ℕ) → IsToldAt w.sent client file l place → l.handle.0 ≡ handle → l.round.0 ≡ version
    → IsRoundOpen k handle version (record { file = file; index = l.index }) × ((at : Spot) → IsRoundOpen k handle version at → at ≡ record { file = file; index = l.index })
