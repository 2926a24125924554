-- Where a path goes at a label.
use Rattle.std.specs.Prelude.{◌≡◌, ◌≢◌, ◌≤◌, ◌<◌, ℕ, List, ◌++◌, take, drop, length}
use Rattle.label_tree.specs.Fronts.{first_byte}
use Rattle.label_tree.specs.declared.turn.Turn.{Turn}
use Rattle.label_tree.specs.declared.turn.Turn.TheVariants.{Before, After, Through, Cut}

-- a path shares the first n bytes of a label, which has more, and then ends or has another byte
pub record IsCut (label path : List ℕ) (n : ℕ) : Type 0 where
  pub some : 1 ≤ n
  pub within : n < length label
  pub agrees : path ≡ take n label ++ drop n path
  pub parts : 1 ≤ length (drop n path) → first_byte (drop n label) ≢ first_byte (drop n path)

-- where a path goes at a label
abbrev pub IsTurn : List ℕ → List ℕ → Turn → Type 0
IsTurn label path Before = first_byte path < first_byte label
IsTurn label path After = first_byte label < first_byte path
IsTurn label path Through = path ≡ label ++ drop (length label) path
IsTurn label path (Cut n) = IsCut label path n
