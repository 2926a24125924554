-- Laws of every lawful list of events on the rounds of a chunk's entries, that public functions of this crate state.
use Rattle.std.specs.Prelude.{◌≡◌, ◌⊎◌, ℕ, ◌≤◌, ◌<◌, List, ◌++◌, map, Some, IsTrue}
use Rattle.gfs_types.specs.declared.config.Config.{Config}
use Rattle.gfs_types.specs.declared.ids.Handle.{Handle}
use Rattle.messages.specs.declared.event.Event.{Event}
use Rattle.messages.specs.declared.event.NodeInput.{NodeInput}
use Rattle.protocol.specs.Tables.{element_at}
use Rattle.protocol.specs.Choice.{Choice}
use Rattle.protocol.specs.declared.seen.Seen.TheVariants.{CopyStarted}
use Rattle.protocol.specs.Observer.{Placed, order_of}
use Rattle.protocol.specs.MasterStep.{master_step}
use Rattle.protocol.specs.World.{WorldState, after_master, happens, after_events, IsReached}
use Rattle.laws_base.specs.Laws.{grants_of}
use Rattle.laws_base.specs.Versions.{IsLeaseOver}
use Rattle.laws_base.specs.ChunkOrders.{unsettled}

-- Where clocks are kept, of two versions of a chunk that were granted the lease of the lower one is over (section 3.1).
abbrev pub LowerLeasesAreOver : Type 0
LowerLeasesAreOver =
    (config : Config) (servers clients : ℕ) (w : WorldState) → IsReached config servers clients w → IsTrue w.observer.are_clocks_kept
    → (handle low high : ℕ) → 1 ≤ grants_of handle low w.sent → 1 ≤ grants_of handle high w.sent → low < high → IsLeaseOver w handle low

-- it lies below each version of the chunk that was granted
abbrev pub IsBelowGrants : WorldState → ℕ → ℕ → Type 0
IsBelowGrants w handle round = (version : ℕ) → 1 ≤ grants_of handle version w.sent → round < version

-- The round of an entry was granted to its chunk, or lies below each version that was (sections 3.1 and 3.4).
abbrev pub EntriesAreOfGrantedRounds : Type 0
EntriesAreOfGrantedRounds =
    (config : Config) (servers clients : ℕ) (w : WorldState) → IsReached config servers clients w
    → (handle place : ℕ) (p : Placed) → element_at (order_of w.observer handle) place ≡ Some p
    → (1 ≤ grants_of handle p.entry.round w.sent) ⊎ IsBelowGrants w handle p.entry.round

-- one order begins with another, but for what became settled since
abbrev pub BeginsWith : List Placed → List Placed → Type 0
BeginsWith first all = (more : List Placed) × (map unsettled all ≡ map unsettled first ++ more)

-- From the step on that shows that a copy begins, the copy's order begins with what its source's was then, and the rounds of these entries lie below each version of the copy that is granted (section 3.4).
abbrev pub CopiesBeginWithTheirSource : Type 0
CopiesBeginWithTheirSource =
    (config : Config) (servers clients : ℕ) (w : WorldState) → IsReached config servers clients w → (e : Event) (choice : Choice)
    → (moment : ℕ) (i : NodeInput) (taken : Choice) → happens w e choice ≡ after_master w moment (master_step w.master moment i taken)
    → (place : ℕ) (handle copy : Handle) → element_at (master_step w.master moment i taken).seen place ≡ Some (CopyStarted handle copy)
    → (steps : List (Event × Choice))
    → BeginsWith (order_of w.observer handle.0) (order_of (after_events (happens w e choice).world steps).observer copy.0)
    × ((other : ℕ) (p : Placed) → element_at (order_of w.observer handle.0) other ≡ Some p → IsBelowGrants (after_events (happens w e choice).world steps) copy.0 p.entry.round)

-- Where clocks are kept, no entry of an order is of a lower round than one before it (section 3.1).
abbrev pub RoundsOfOrdersRise : Type 0
RoundsOfOrdersRise =
    (config : Config) (servers clients : ℕ) (w : WorldState) → IsReached config servers clients w → IsTrue w.observer.are_clocks_kept
    → (handle place later : ℕ) (p q : Placed) → element_at (order_of w.observer handle) place ≡ Some p → element_at (order_of w.observer handle) later ≡ Some q → place < later
    → p.entry.round ≤ q.entry.round
