-- One journal lies in the table's slot. It is lawful, and each writer knows its own part of it.
use Rattle.std.specs.Prelude.{◌≡◌, ℕ, suc, ◌+◌, ◌-◌, ◌<◌, ◌≤◌, ◌==◌, Bool, true, false, List, [], ◌∷◌, ◌++◌, length, slice_index, MatchBool, Option, Some, None, IsTrue}
use mathlib.Core.Option.{some}
use mathlib.Core.List.{IsPrefix}
use lib.ListN.{get_elem?}
use Rattle.atomic_table.specs.Table.{State, Me, Step}
use Rattle.gfs_types.specs.declared.ids.Node.{Node}
use Rattle.protocol.specs.Choice.{Choice}
use Rattle.protocol.specs.World.{new_world}
use Rattle.protocol_journal.specs.Journal.{Entry, NodeState, node_in, node_step, may_take, own, LeadsTo, sent_after, IsForNode}
use Rattle.protocol.specs.Tables.{moment_limit}
use Rattle.std.specs.Prelude.{nat_le}
use Rattle.cell_journal.specs.Identity.{Identity, Filled}
use Rattle.cell_journal.specs.declared.view.View.{View}
use Rattle.cell_journal.specs.declared.view.Role.{Role}
use Rattle.cell_journal.specs.declared.view.Role.TheVariants.{Nobody, Only, From}
use Rattle.cell_journal.specs.Roles.{WritesAs, next_role, later_roles, own_of}
use Rattle.cell_journal.specs.WholeHistories.{history_of, all_steps, is_retired, LeaveRetired, IsHistoryOf}

-- a journal of this cell: its entries make a lawful history
abbrev pub IsJournalOf : Identity → List Entry → Type 0
IsJournalOf cell entries = IsHistoryOf cell (history_of cell entries)

abbrev pub Writes : View → Node → Type 0
Writes v n = WritesAs v.of.servers v.role n

-- what a writer knows of the journal
pub record Fits (cell : Identity) (log : List Entry) (v : View) : Type 0 where
  pub of : (n : Node) → Writes v n → v.of ≡ cell
  pub seen : IsPrefix v.seen log
  pub mine : (n : Node) → Writes v n → own n log ≡ v.mine
  pub here : v.holds ≡ true → log ≡ v.seen

abbrev pub AllFit : Identity → List Entry → List View → Type 0
AllFit cell log views = (id : ℕ) (v : View) → get_elem? views id ≡ some v → Fits cell log v

-- no two writers write for one node, and no two have the journal
pub record Apart (views : List View) : Type 0 where
  pub roles : (i j : ℕ) (v w : View) (n : Node) → get_elem? views i ≡ some v → get_elem? views j ≡ some w → Writes v n → Writes w n → i ≡ j
  pub holders : (i j : ℕ) (v w : View) → get_elem? views i ≡ some v → get_elem? views j ≡ some w → v.holds ≡ true → w.holds ≡ true → i ≡ j

abbrev pub NoHolder : List View → Type 0
NoHolder views = (id : ℕ) (v : View) → get_elem? views id ≡ some v → v.holds ≡ true → ⊥

-- for how many steps all writers have room
abbrev pub rooms_in : List View → ℕ
rooms_in [] = 0
rooms_in (v ∷ rest) = v.rooms + rooms_in rest

-- while the word is 0 the journal is there with room for all, and nobody has it
abbrev pub AtHome : Identity → List Entry → State (Option Filled) View → Type 0
AtHome cell log s = slice_index s.words 0 ≡ 0 → (y : Filled) × (get_elem? s.homes 0 ≡ some (some (Some y))) × (y.entries ≡ log) × NoHolder s.views × (y.cell ≡ cell) × (rooms_in s.views ≤ y.reserved)

pub record Keeps (cell : Identity) (s : State (Option Filled) View) : Type 0 where
  pub log : List Entry
  pub lawful : IsJournalOf cell log
  pub leaves : LeaveRetired cell log
  pub fit : AllFit cell log s.views
  pub apart : Apart s.views
  pub word : 0 < length s.words
  pub home : AtHome cell log s
  pub room : (id : ℕ) (v : View) → get_elem? s.views id ≡ some v → v.holds ≡ true → rooms_in s.views ≤ v.found

-- the first writer writes for every node
abbrev pub first_view : Identity → View
first_view cell = record { of = cell; role = From 0; mine = []; holds = false; seen = []; rooms = 0; found = 0 }

-- the journal was taken, as it is now
pub record Took (v w : View) (y : Filled) : Type 0 where
  pub is : w ≡ record v { holds = true; seen = y.entries; found = y.reserved }
  pub grows : IsPrefix v.seen y.entries
  pub lawful : IsJournalOf v.of y.entries
  pub leaves : LeaveRetired v.of y.entries
  pub mine : (n : Node) → Writes v n → own n y.entries ≡ v.mine
  pub cell : y.cell ≡ v.of
  pub room : v.rooms ≤ y.reserved

abbrev pub HasTaken : Me (Option Filled) View → Me (Option Filled) View → Type 0
HasTaken v w = (y : Filled) × (w.1 ≡ (0, Some y) ∷ []) × Took v.0 w.0 y

abbrev pub Takes : Step (Option Filled) → Me (Option Filled) View → ℕ → Me (Option Filled) View → Type 0
Takes s v found w = MatchBool (found == 0) (HasTaken v w) (w ≡ v)

-- it was given back, with the entries that it has now; what room was added is the writer's
abbrev pub gave : View → Filled → View
gave v y = record v { holds = false; seen = y.entries; mine = own_of v.role v.mine y.entries; rooms = v.rooms + y.reserved - v.found }

abbrev pub Gave : Me (Option Filled) View → Me (Option Filled) View → Type 0
Gave v w = (y : Filled) → v.1 ≡ (0, Some y) ∷ [] → w ≡ (gave v.0 y, [])

abbrev pub Gives : Step (Option Filled) → Me (Option Filled) View → ℕ → Me (Option Filled) View → Type 0
Gives s v found w = Gave v w

abbrev pub Marks : Step (Option Filled) → Me (Option Filled) View → ℕ → Me (Option Filled) View → Type 0
Marks s v found w = w ≡ v

-- The next step of a writer's own node, of which more may be written, by the last moment: for some choice it is the step from the state that all steps of the node led to. A message that it takes was sent in a beginning of the journal.
pub record IsStepOf (v : View) (e : Entry) : Type 0 where
  pub role : v.role ≡ Only e.node
  pub goes_on : is_retired v.of e.node ≡ false
  pub state : NodeState
  pub choice : Choice
  pub leads : LeadsTo (node_in (new_world v.of.config v.of.servers v.of.clients) e.node) (all_steps v e.node) (Some state)
  pub may : IsTrue (may_take state e.cause)
  pub gives : (node_step state e.moment e.cause choice).out ≡ e.out
  pub sees : (node_step state e.moment e.cause choice).seen ≡ e.seen
  pub moment : IsTrue (nat_le e.moment moment_limit)
  pub read : List Entry
  pub before : IsPrefix read v.seen
  pub reads : IsForNode (sent_after [] read) e.node e.cause

-- no other writer's room is taken away
abbrev pub LeavesRoom : View → Filled → Type 0
LeavesRoom v y = v.found ≤ v.rooms + y.reserved

-- the journal as a writer that has it may give it back: the same, or with one step more of the writer's own node
abbrev pub IsSame : View → Filled → Type 0
IsSame v y = (v.holds ≡ true) × (y.cell ≡ v.of) × (y.entries ≡ v.seen) × LeavesRoom v y

pub record Adds (v : View) (e : Entry) (y : Filled) : Type 0 where
  pub holds : v.holds ≡ true
  pub cell : y.cell ≡ v.of
  pub step : IsStepOf v e
  pub is : y.entries ≡ v.seen ++ e ∷ []
  pub room : LeavesRoom v y

-- a writer for the next node, and the writer that is left
abbrev pub next_writer : View → View
next_writer v = record v { role = next_role v.of.servers v.role; holds = false; rooms = 0 }

abbrev pub after_next : View → View
after_next v = record v { role = later_roles v.role }
