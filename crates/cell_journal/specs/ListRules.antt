-- The rule of a list's log, and what its steps tell.
use Rattle.std.specs.Prelude.{◌≡◌, ℕ, ◌==◌, true, List, [], ◌∷◌, ◌++◌, MatchBool}
use mathlib.Core.List.{IsPrefix}
use Rattle.logbook.specs.Pages.{Cell, cell, Step, View, Book, Named, may_make}
use Rattle.cell_journal.specs.declared.note.Note.{Note}
use Rattle.cell_journal.specs.declared.note.Note.TheVariants.{Fresh, Begins, Adds, Ends}
use Rattle.cell_journal.specs.Log.{Home, Legal, IsTurn, nothing_written, written_of, items_of, last_next, count_of}

pub record IsKept {T : Type 0} (cells : List Cell) (log : List (Note T)) : Type 0 where
  pub head : Home cells 0
  pub count : cell cells 1 ≡ (count_of (written_of log).begun, true)
  pub legal : Legal cells nothing_written log

abbrev pub named : ℕ → Book → Named
named k b = record { tracked = true; key = k; book = b }

module _ {T : Type 0} where
  -- nobody used the turn in between
  abbrev pub Keeps : ℕ → List (Note T) → Type 0
  Keeps key log = (xs : List (Note T)) → IsPrefix xs log → IsTurn key (written_of xs) → IsTurn key (written_of log) × (items_of log ≡ items_of xs)

  abbrev pub Makes : Step (Note T) → View (Note T) ℕ → ℕ → View (Note T) ℕ → Type 0
  Makes s v found w = (w.1.0.right ≡ may_make) × (w.1.0.key ≡ last_next w.0)

  abbrev pub Comes : Step (Note T) → View (Note T) ℕ → ℕ → View (Note T) ℕ → Type 0
  Comes s v found w = MatchBool (found == 0) ((w.1.0.right ≡ may_make) × IsTurn w.1.0.key (written_of w.0) × (items_of w.0 ≡ [])) (Unit {0})

  abbrev pub AddsTo : Note T → View (Note T) ℕ → View (Note T) ℕ → Type 0
  AddsTo (Fresh next) v w = Unit {0}
  AddsTo (Begins next) v w = Unit {0}
  AddsTo (Adds x next) v w = (log : List (Note T)) × IsPrefix v.0 log × Keeps v.1.0.key log × (w.0 ≡ log ++ Adds x (last_next v.0) ∷ [])
  AddsTo Ends v w = (log : List (Note T)) × IsPrefix v.0 log × Keeps v.1.0.key log × (w.0 ≡ log ++ Ends ∷ [])

  abbrev pub AddsIt : Step (Note T) → View (Note T) ℕ → ℕ → View (Note T) ℕ → Type 0
  AddsIt s v found w = AddsTo s.ask v w
