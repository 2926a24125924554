-- All that a cell did: the entries of its base, and then those of its journal, whose messages are counted after the messages of the base.
use Rattle.std.specs.Prelude.{◌≡◌, ◌⊎◌, ◌-◌, ℕ, Bool, false, List, [], ◌∷◌, ◌++◌, map, length, get_or, Option, All, IsTrue}
use Rattle.gfs_types.specs.declared.ids.Node.{Node}
use Rattle.gfs_types.specs.declared.ids.Node.TheVariants as node
use Rattle.protocol.specs.Tables.{first_numbers}
use Rattle.protocol.specs.Sending.{the_server}
use Rattle.protocol_journal.specs.Journal.{Restarts, Entry, NodeState, own, sent_after, IsLawful}
use Rattle.protocol_journal.specs.Whole.{raised_entry, whole}
use Rattle.cell_journal.specs.Identity.{Identity, Closed}
use Rattle.cell_journal.specs.declared.view.View.{View}

-- the whole history of a cell whose journal has these entries
abbrev pub history_of : Identity → List Entry → List Entry
history_of cell entries = whole cell.base entries

abbrev pub whole_of : Closed → List Entry
whole_of journal = history_of journal.cell journal.entries

-- all that a writer saw
abbrev pub all_seen : View → List Entry
all_seen v = history_of v.of v.seen

-- all steps of a node: those of the base, and these, which the journal has
abbrev pub steps_of : Identity → Node → List Entry → List Entry
steps_of cell n mine = own n cell.base ++ map (raised_entry (length (sent_after [] cell.base))) mine

-- all steps of a node that a writer knows
abbrev pub all_steps : View → Node → List Entry
all_steps v n = steps_of v.of n v.mine

-- nothing more is written of this node: a client as which no seat goes on
abbrev pub is_retired : Identity → Node → Bool
is_retired cell (node.Client c) = get_or cell.retired (c.0 - 1) false
is_retired cell other = false

-- these entries have no step of a client of which nothing more is written
abbrev pub LeaveRetired : Identity → List Entry → Type 0
LeaveRetired cell entries = (n : Node) → IsTrue (is_retired cell n) → own n entries ≡ []

-- by these entries the master and then each server, in rising number, began again
pub record AreRestarts (servers : ℕ) (restarts : List Entry) : Type 0 where
  pub nodes : map (λ e. e.node) restarts ≡ node.Master ∷ map the_server (first_numbers servers)
  pub causes : All (λ e. e.cause ≡ Restarts) restarts

-- the entries by which a cell's journal begins: none, without a base, or restarts
abbrev pub Begins : Identity → List Entry → Type 0
Begins cell restarts = ((cell.base ≡ []) × (restarts ≡ [])) ⊎ AreRestarts cell.servers restarts

-- a lawful history of this cell
abbrev pub IsHistoryOf : Identity → List Entry → Type 0
IsHistoryOf cell history = (ends : Node → Option NodeState) × IsLawful cell.config cell.servers cell.clients history ends
