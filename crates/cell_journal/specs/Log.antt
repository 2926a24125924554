-- What a list's log comes to.
use Rattle.std.specs.Prelude.{◌≡◌, ℕ, Bool, true, false, List, [], ◌∷◌, ◌++◌, if◌then◌else◌}
use Rattle.logbook.specs.Pages.{Cell, cell, Book}
use Rattle.cell_journal.specs.declared.note.Note.{Note}
use Rattle.cell_journal.specs.declared.note.Note.TheVariants.{Fresh, Begins, Adds, Ends}

-- whether the writer came, the cell of its turn, whether it closed the list, and the list
pub record Written (T : Type 0) : Type 0 where
  pub begun : Bool
  pub key : ℕ
  pub over : Bool
  pub items : List T

-- a list under its name
pub record Listed (T : Type 0) : Type 0 where
  pub name : Book
  pub items : List T

abbrev pub listed : {T : Type 0} → Book → List T → Listed T
listed name items = record { name = name; items = items }

abbrev pub Home : List Cell → ℕ → Type 0
Home cs k = (cell cs k).1 ≡ true

module _ {T : Type 0} where
  abbrev pub written : Bool → ℕ → Bool → List T → Written T
  written begun key over items = record { begun = begun; key = key; over = over; items = items }

  abbrev pub after_note : Written T → Note T → Written T
  after_note w (Fresh next) = w
  after_note w (Begins next) = written true next false w.items
  after_note w (Adds x next) = written true next false (w.items ++ x ∷ [])
  after_note w Ends = written true w.key true w.items

  abbrev pub after : Written T → List (Note T) → Written T
  after w [] = w
  after w (n ∷ ns) = after (after_note w n) ns

  abbrev pub nothing_written : Written T
  nothing_written = written false 0 false []

  abbrev pub written_of : List (Note T) → Written T
  written_of log = after nothing_written log

  abbrev pub items_of : List (Note T) → List T
  items_of log = (written_of log).items

  -- whoever added or ends has brought home the cell of its turn, where the list is open
  abbrev pub Open : List Cell → Written T → Type 0
  Open cs w = (w.begun ≡ true) × (w.over ≡ false) × Home cs w.key

  -- one writer comes
  abbrev pub May : List Cell → Written T → Note T → Type 0
  May cs w (Fresh next) = Unit {0}
  May cs w (Begins next) = w.begun ≡ false
  May cs w (Adds x next) = Open cs w
  May cs w Ends = Open cs w

  abbrev pub Legal : List Cell → Written T → List (Note T) → Type 0
  Legal cs w [] = Unit {0}
  Legal cs w (n ∷ ns) = May cs w n × Legal cs (after_note w n) ns

  -- the list is open, and the writer's turn is this cell's
  abbrev pub IsTurn : ℕ → Written T → Type 0
  IsTurn key w = (w.begun ≡ true) × (w.over ≡ false) × (w.key ≡ key)

  abbrev pub IsOver : Written T → Type 0
  IsOver w = (w.begun ≡ true) × (w.over ≡ true)

  abbrev pub next_of : Note T → ℕ
  next_of (Fresh next) = next
  next_of (Begins next) = next
  next_of (Adds x next) = next
  next_of Ends = 0

  abbrev pub last_next : List (Note T) → ℕ
  last_next [] = 0
  last_next (n ∷ []) = next_of n
  last_next (n ∷ m ∷ ns) = last_next (m ∷ ns)

abbrev pub count_of : Bool → ℕ
count_of b = if b then 1 else 0
