-- A writer of the journal, and what its steps leave.
use Rattle.std.specs.Prelude.{◌≡◌, ℕ, ◌+◌, ◌≤◌, ◌++◌, false, List, [], ◌∷◌, length, Option, Some, None, Result, IfOk, OnErr}
use mathlib.Core.List.{IsPrefix}
use Rattle.atomic_table.specs.Table.{Me}
use Rattle.atomic_table.specs.Seated.{TableId}
use Rattle.gfs_types.specs.declared.ids.Node.{Node}
use Rattle.gfs_types.specs.declared.refusal.Refusal.{Refusal}
use Rattle.messages.specs.declared.message.Message.{Message}
use Rattle.protocol.specs.World.{numbered_from_1}
use Rattle.protocol_journal.specs.Journal.{Entry, own, sent_after}
use Rattle.cell_journal.specs.Log.{Listed, listed}
use Rattle.cell_journal.specs.Identity.{Identity, Filled, Closed}
use Rattle.cell_journal.specs.declared.history_look.HistoryLook.{HistoryLook}
use Rattle.cell_journal.specs.declared.view.View.{View}
use Rattle.cell_journal.specs.declared.view.Role.TheVariants.{Only, From}
use Rattle.cell_journal.specs.Rules.{IsJournalOf, Writes}
use Rattle.cell_journal.specs.WholeHistories.{all_seen, whole_of, LeaveRetired}

-- a writer at this table, which has one word and one slot
abbrev pub IsAt : TableId → TableId → Type 0
IsAt table writer = (table.words ≡ 1) × (table.slots ≡ 1) × (writer ≡ table)

-- the writer of one node, while it hasn't the journal
pub record IsNodeWriter (n : Node) (me : Me (Option Filled) View) : Type 0 where
  pub role : me.0.role ≡ Only n
  pub free : me.1 ≡ []

-- its nodes took no step; others may have
pub record IsLater (v w : View) : Type 0 where
  pub of : w.of ≡ v.of
  pub role : w.role ≡ v.role
  pub mine : w.mine ≡ v.mine
  pub grows : IsPrefix v.seen w.seen

-- the message of a number, where there is a number, is one that was sent to this node
abbrev pub IsRead : List Message → Node → Option ℕ → Option Message → Type 0
IsRead sent n None None = Unit {0}
IsRead sent n (Some k) (Some m) = (numbered_from_1 sent k ≡ Some m) × (m.receiver ≡ n)
IsRead sent n number message = ⊥

-- its node took one step more, which is the last of a lawful journal
pub record GoesOn (v w : View) (e : Entry) : Type 0 where
  pub of : w.of ≡ v.of
  pub role : w.role ≡ v.role
  pub mine : w.mine ≡ v.mine ++ e ∷ []
  pub own_is : w.mine ≡ own e.node w.seen
  pub grows : IsPrefix v.seen w.seen
  pub before : List Entry
  pub last : w.seen ≡ before ++ e ∷ []
  pub lawful : IsJournalOf w.of w.seen
  pub leaves : LeaveRetired w.of w.seen

-- the whole history as a writer saw it last, under the cell's name, and its length
abbrev pub IsSeen : View → Listed Entry → ℕ → Type 0
IsSeen v beginning count = (beginning ≡ listed v.of.name (all_seen v)) × (count ≡ length (all_seen v))

-- what whoever has a journal makes of it for a step: room for one entry more and the step's message, or nothing
pub record Prepares (v : View) (y : Filled) (n : Node) (number : Option ℕ) (found : Result (Option Message) Refusal) (me : Me (Option Filled) View) : Type 0 where
  pub now : Filled
  pub has : me ≡ (v, (0, Some now) ∷ [])
  pub cell : now.cell ≡ y.cell
  pub entries : now.entries ≡ y.entries
  pub room : y.reserved ≤ now.reserved
  pub ok : IfOk found (λ m. (now.reserved ≡ y.reserved + 1) × IsRead (sent_after [] y.entries) n number m)
  pub err : OnErr found (now.reserved ≡ y.reserved)

-- the writer of a node saw the whole history, and what the node did is what the journal has of it
pub record HasLooked (n : Node) (v : View) (l : HistoryLook) : Type 0 where
  pub cell_is : l.cell ≡ v.of
  pub seen : IsSeen v l.beginning l.count
  pub own_is : v.mine ≡ own n v.seen
  pub leaves : LeaveRetired v.of v.seen

-- the writer of one that waits until no step is under way
pub record IsWaiting (v : View) (me : Me (Option Filled) View) : Type 0 where
  pub free : me.1 ≡ []
  pub of : me.0.of ≡ v.of
  pub role : me.0.role ≡ v.role
  pub mine : me.0.mine ≡ v.mine

-- a writer that writes for every node, and wrote nothing
pub record WritesAll (me : Me (Option Filled) View) : Type 0 where
  pub role : me.0.role ≡ From 0
  pub mine : me.0.mine ≡ []
  pub free : me.1 ≡ []

-- of the nodes for which this writer writes a journal has just what it wrote
abbrev pub HasOwn : View → Closed → Type 0
HasOwn v journal = (n : Node) → Writes v n → own n journal.entries ≡ v.mine

-- this cell's journal as it was parked, lawful behind its base, with so many entries of the whole history, and none of its own of a client of which nothing more is written
pub record IsParkedAt (cell : Identity) (count : ℕ) (journal : Closed) : Type 0 where
  pub cell_is : journal.cell ≡ cell
  pub lawful : IsJournalOf journal.cell journal.entries
  pub leaves : LeaveRetired journal.cell journal.entries
  pub parked : journal.is_over ≡ false
  pub count_is : length (whole_of journal) ≡ count
