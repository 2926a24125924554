-- Rounds that are open stay apart from one world to the next, but for those that are granted (sections 2.4, 3.1 and 3.4).
use Rattle.std.specs.Prelude.{◌≡◌, ◌⊎◌, ℕ, ◌<◌, ◌≤◌, IsTrue}
use Rattle.gfs_types.specs.declared.config.Config.{Config}
use Rattle.messages.specs.declared.event.Event.{Event}
use Rattle.protocol.specs.Choice.{Choice}
use Rattle.protocol.specs.World.{WorldState, happens, IsReached}
use Rattle.laws_base.specs.Laws.{grants_of}
use Rattle.laws_base.specs.Versions.{IsLeaseOver}
use Rattle.protocol_invariant.specs.Actions.{Spot}
use Rattle.laws_machine.specs.ChunksAlike.{ChunkSides, StandsAt, AreChunksAlike, KeepsRounds, HasRounds}
use Rattle.laws_machine.specs.Rounds.{IsLogOf, IsEnded}
use Rattle.laws_machine.specs.ServerSteps.{AreGoneOrdersAlike}
use Rattle.laws_machine.specs.HoldersApart.{IsRoundAt, IsApart}

-- Where clocks are kept, what stands in the master's log is apart at its spot, up to each version.
abbrev pub LoggedChunksAreApart : Type 0
LoggedChunksAreApart =
    (config : Config) (servers clients : ℕ) (w : WorldState) → IsReached config servers clients w → IsTrue w.observer.are_clocks_kept
    → (k : ChunkSides) → IsLogOf w.master k.log → AreChunksAlike k → (handle : ℕ) (s : Spot) → StandsAt k.log.table handle s → (version : ℕ) → IsApart (IsLeaseOver w) k handle version s

-- a Grant of this version of the chunk was sent from one world to the next
abbrev pub IsNewGrant : WorldState → WorldState → ℕ → ℕ → Type 0
IsNewGrant w then_ handle version = grants_of handle version w.sent < grants_of handle version then_.sent

-- what is asked of the rounds up to a version that are granted from one world to the next
abbrev pub AreGrantsApart : WorldState → WorldState → ChunkSides → (handle version : ℕ) → Spot → Type 0
AreGrantsApart w then_ j handle version s =
    (other round : ℕ) (t : Spot) → IsNewGrant w then_ other round → round ≤ version → IsRoundAt j other round t → IsLeaseOver then_ other round ⊎ ((other ≡ handle → t ≡ s) × (t ≡ s → other ≡ handle))

-- Where clocks are kept, whatever handle and spot were apart are so after an event, where the rounds that were granted in it are apart: each other round that is open and not over was open before at its spot.
abbrev pub RoundsStayApart : Type 0
RoundsStayApart =
    (config : Config) (servers clients : ℕ) (w : WorldState) → IsReached config servers clients w → (e : Event) (choice : Choice) → IsTrue (happens w e choice).world.observer.are_clocks_kept
    → (k j : ChunkSides) → HasRounds (IsLeaseOver w) k → KeepsRounds (IsEnded w (happens w e choice).world) k j → IsLogOf (happens w e choice).world.master j.log → AreChunksAlike j → AreGoneOrdersAlike j
    → (handle version : ℕ) (s : Spot) → IsApart (IsLeaseOver w) k handle version s → AreGrantsApart w (happens w e choice).world j handle version s
    → IsApart (IsLeaseOver (happens w e choice).world) j handle version s
