-- The lock of a node, which keeps whose node it is.
use Rattle.std.specs.Prelude.{◌≡◌, ℕ, ◌<◌, ◌==◌, [], ◌∷◌, length, slice_index, Option, Some, None, MatchBool}
use mathlib.Core.Option.{some}
use lib.ListN.{get_elem?}
use Rattle.atomic_table.specs.Table.{State, Me, Step}
use Rattle.gfs_types.specs.declared.ids.Node.{Node}
use Rattle.cell_journal.specs.Identity.{Identity}
use Rattle.cell_seats.specs.Slots.{SlotState}

-- a node of a cell
pub record NodeName : Type 0 where
  pub cell : Identity
  pub node : Node

abbrev pub node_name : Identity → Node → NodeName
node_name cell node = record { cell = cell; node = node }

abbrev pub IsNamed : NodeName → SlotState → Type 0
IsNamed name s = (s.node ≡ name.node) × (s.view.of ≡ name.cell)

-- what lies in the lock, if it was not taken out for good, is the node of this name
abbrev pub Guards : NodeName → Option SlotState → Type 0
Guards name None = Unit {0}
Guards name (Some s) = IsNamed name s

-- while the word is 0 it lies there
abbrev pub KeepsNode : NodeName → State (Option SlotState) NodeName → Type 0
KeepsNode name s = (0 < length s.words) × (slice_index s.words 0 ≡ 0 → (y : Option SlotState) × (get_elem? s.homes 0 ≡ some (some y)) × Guards name y)

-- somebody has what lies in the lock of this name
abbrev pub HasNode : NodeName → Me (Option SlotState) NodeName → Type 0
HasNode name me = (me.0 ≡ name) × ((y : Option SlotState) × (me.1 ≡ (0, y) ∷ []) × Guards name y)

-- it was taken, or another has it
abbrev pub TakesNode : Step (Option SlotState) → Me (Option SlotState) NodeName → ℕ → Me (Option SlotState) NodeName → Type 0
TakesNode s v found w = (w.0 ≡ v.0) × MatchBool (found == 0) ((y : Option SlotState) × (w.1 ≡ (0, y) ∷ []) × Guards v.0 y) (w.1 ≡ [])

abbrev pub GivesNode : Step (Option SlotState) → Me (Option SlotState) NodeName → ℕ → Me (Option SlotState) NodeName → Type 0
GivesNode s v found w = Unit {0}
