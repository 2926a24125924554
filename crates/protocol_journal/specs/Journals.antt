-- Laws of journals with a base, that public functions of this crate state.
use Rattle.std.specs.Prelude.{◌≡◌, ℕ, List, [], ◌∷◌, ◌++◌, map, Option, Some, IsTrue}
use Rattle.gfs_types.specs.declared.config.Config.{Config}
use Rattle.gfs_types.specs.declared.ids.Node.{Node}
use Rattle.protocol.specs.Choice.{Choice}
use Rattle.protocol.specs.Observer.{Observer}
use Rattle.protocol_journal.specs.Journal.{Entry, NodeState, node_step, may_take, sent_after, observed_after, EachMayFollow, LeadsTo, MayFollow, IsLawful, own, with_end}
use Rattle.protocol_journal.specs.Whole.{raised_entry, whole}

-- A journal with a base grows by a step of one of its nodes. What the entry takes was sent in this journal, under the number that it has there.
abbrev pub WholeJournalsGrow : Type 0
WholeJournalsGrow =
    (config : Config) (servers clients : ℕ) (base entries : List Entry) (ends : Node → Option NodeState)
    → IsLawful config servers clients (whole base entries) ends
    → (e : Entry) (s : NodeState) (choice : Choice) → ends e.node ≡ Some s → MayFollow (sent_after [] entries) e
    → IsTrue (may_take s e.cause) → (node_step s e.moment e.cause choice).out ≡ e.out → (node_step s e.moment e.cause choice).seen ≡ e.seen
    → IsLawful config servers clients (whole base (entries ++ e ∷ [])) (with_end ends e.node (node_step s e.moment e.cause choice).state)

-- Entries that lead on from where a lawful base led, with messages counted anew, are lawful behind it.
abbrev pub JournalsWithBasesAreLawful : Type 0
JournalsWithBasesAreLawful =
    (config : Config) (servers clients : ℕ) (base entries : List Entry) (middles ends : Node → Option NodeState)
    → IsLawful config servers clients base middles
    → EachMayFollow [] entries → ((n : Node) → LeadsTo (middles n) (own n entries) (ends n))
    → IsLawful config servers clients (whole base entries) ends

-- A journal without a base is its whole list.
abbrev pub JournalsWithoutBasesAreWhole : Type 0
JournalsWithoutBasesAreWhole = (entries : List Entry) → whole [] entries ≡ entries

-- The same is seen of entries under raised numbers: calls, answers, chunks' orders, moments, clocks.
abbrev pub BasesChangeNothingSeen : Type 0
BasesChangeNothingSeen =
    (skew before : ℕ) (o : Observer) (entries : List Entry) → observed_after skew o (map (raised_entry before) entries) ≡ observed_after skew o entries
