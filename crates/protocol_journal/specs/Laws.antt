-- Laws of lawful journals, that public functions of this crate state.
use Rattle.std.specs.Prelude.{◌≡◌, ℕ, List, [], ◌∷◌, ◌++◌, Option, Some, IsTrue}
use Rattle.gfs_types.specs.declared.config.Config.{Config}
use Rattle.gfs_types.specs.declared.ids.Node.{Node}
use Rattle.protocol.specs.Choice.{Choice}
use Rattle.protocol.specs.World.{WorldState, IsReached}
use Rattle.protocol_journal.specs.Journal.{Entry, NodeState, node_in, node_step, may_take, sent_after, MayFollow, IsLawful, observer_of, with_end}

-- The world shows what the journal says: its nodes, its messages, its calls and answers, the orders of its chunks, and whether clocks were kept. Disks were kept.
pub record Shows (w : WorldState) (entries : List Entry) (ends : Node → Option NodeState) : Type 0 where
  pub nodes_are : (n : Node) → node_in w n ≡ ends n
  pub sent_is : w.sent ≡ sent_after [] entries
  pub trace_is : w.observer.trace ≡ (observer_of w.config entries).trace
  pub orders_are : w.observer.orders ≡ (observer_of w.config entries).orders
  pub clocks_are : w.observer.are_clocks_kept ≡ (observer_of w.config entries).are_clocks_kept
  pub disks_are_kept : IsTrue w.observer.are_disks_kept

-- A lawful journal is a list of the world's events.
abbrev pub JournalsAreRuns : Type 0
JournalsAreRuns =
    (config : Config) (servers clients : ℕ) (entries : List Entry) (ends : Node → Option NodeState) → IsLawful config servers clients entries ends
    → (w : WorldState) × IsReached config servers clients w × (w.config ≡ config) × Shows w entries ends

-- A lawful journal grows by a step of one of its nodes.
abbrev pub JournalsGrow : Type 0
JournalsGrow =
    (config : Config) (servers clients : ℕ) (entries : List Entry) (ends : Node → Option NodeState) → IsLawful config servers clients entries ends
    → (e : Entry) (s : NodeState) (choice : Choice) → ends e.node ≡ Some s → MayFollow (sent_after [] entries) e
    → IsTrue (may_take s e.cause) → (node_step s e.moment e.cause choice).out ≡ e.out → (node_step s e.moment e.cause choice).seen ≡ e.seen
    → IsLawful config servers clients (entries ++ e ∷ []) (with_end ends e.node (node_step s e.moment e.cause choice).state)
