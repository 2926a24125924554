-- A client of a script: the calls that it makes, and what it is answered.
use Rattle.std.specs.Prelude.{◌≡◌, ⊤, ℕ, suc, ◌+◌, ◌≤◌, Bool, false, if◌then◌else◌, List, [], ◌∷◌, ◌++◌, length, slice_get, Some, All}
use Rattle.std.specs.List.{flat_map}
use Rattle.gfs_types.specs.declared.answer.Answer.{Answer}
use Rattle.gfs_types.specs.declared.call.Call.{Call}
use Rattle.gfs_types.specs.declared.ids.Node.TheVariants.{Client}
use Rattle.script.specs.declared.live_lines.LiveLine.{LiveLine}
use Rattle.script.specs.LiveLines.{is_reopen}
use Rattle.cell_journal.specs.Identity.{Identity}
use Rattle.cell_seats.specs.Seen.{Visible}
use Rattle.cell_seats.specs.Seats.{SeatState, seat_state, shown, GoesOver}
use Rattle.cell_looks.specs.ClientAnswers.{calls_of, Stretch, calls_in, replies_in, heard_in, IsStretch, first_number}
use Rattle.live.specs.declared.play.Player.{Player}
use Rattle.live.specs.declared.reopen.Unseated.{Unseated}

-- the last stretch goes on, while the cell itself refused no call of it
pub record HasPlayed (shown : List Visible) (is_lost : Bool) (reopens : ℕ) (calls : List Call) (replies : List Answer) : Type 0 where
  pub before : List Stretch
  pub last : Stretch
  pub count : length before ≤ reopens
  pub were : All IsStretch before
  pub is : IsStretch last
  pub calls_are : calls ≡ flat_map calls_in before ++ calls_in last
  pub replies_are : replies ≡ flat_map replies_in before ++ replies_in last
  pub shows : shown ≡ flat_map heard_in before ++ heard_in last
  pub none_refused : is_lost ≡ false → last.refused ≡ []

-- it is the same client
pub record IsSamePlayer (old new : Player) : Type 0 where
  pub id : new.id ≡ old.id
  pub node : new.seat.node ≡ old.seat.node
  pub earlier : new.seat.earlier ≡ old.seat.earlier
  pub cell : new.seat.cell ≡ old.seat.cell

-- it made these calls, while its cell was parked so often
abbrev pub HasMade : Player → ℕ → List Call → Type 0
HasMade p reopens calls = HasPlayed (shown p.seat) p.seat.is_lost reopens calls p.answers.items

-- it made these calls more
abbrev pub PlaysOn : Player → Player → List Call → Type 0
PlaysOn old new calls = (reopens : ℕ) (before : List Call) → HasMade old reopens before → HasMade new reopens (before ++ calls)

-- it made its calls of these lines, if it lacked no memory
pub record Plays (lines : List LiveLine) (old new : Player) : Type 0 where
  pub same : IsSamePlayer old new
  pub lacked : new.lacked_memory ≡ false → old.lacked_memory ≡ false
  pub played : new.lacked_memory ≡ false → PlaysOn old new (calls_of old.id.0 lines)

-- a client of this number that made no call
pub record IsNewPlayer (cell : Identity) (client : ℕ) (p : Player) : Type 0 where
  pub id : p.id.0 ≡ client
  pub seat : p.seat ≡ seat_state (Client (record { 0 = client })) [] cell [] false false
  pub answers : p.answers.items ≡ []

-- at how many of these lines the cell is parked
abbrev pub reopens_in : List LiveLine → ℕ
reopens_in [] = 0
reopens_in (line ∷ rest) = (if is_reopen line then 1 else 0) + reopens_in rest

-- a client of this number that made these calls, if it lacked no memory, while the cell was parked so often
pub record HasCalled (cell : Identity) (reopens : ℕ) (calls : List Call) (client : ℕ) (p : Player) : Type 0 where
  pub id : p.id.0 ≡ client
  pub first : first_number p.seat.earlier p.seat.node ≡ Client (record { 0 = client })
  pub few : length p.seat.earlier ≤ reopens
  pub cell_is : p.seat.cell ≡ cell
  pub made : p.lacked_memory ≡ false → HasMade p reopens calls

-- all its calls of these lines
abbrev pub IsPlayed : Identity → List LiveLine → ℕ → Player → Type 0
IsPlayed cell lines client p = HasCalled cell (reopens_in lines) (calls_of client lines) client p

-- the same client, at the seat with which it goes on in this cell
pub record Reopens (cell : Identity) (old new : Player) : Type 0 where
  pub id : new.id ≡ old.id
  pub answers : new.answers.items ≡ old.answers.items
  pub lacked : new.lacked_memory ≡ old.lacked_memory
  pub saw : ℕ
  pub over : GoesOver cell (Some saw) old.seat new.seat

-- the settings of a script's cell and its counts of nodes are those of this one
pub record IsReopened (old new : Identity) : Type 0 where
  pub config_is : new.config ≡ old.config
  pub servers_are : new.servers ≡ old.servers
  pub clients_are : new.clients ≡ old.clients

-- each client goes on in this cell
abbrev pub AllReopen : Identity → List Player → List Player → Type 0
AllReopen cell [] [] = ⊤
AllReopen cell (old ∷ olds) (new ∷ news) = Reopens cell old new × AllReopen cell olds news
AllReopen cell olds news = ⊥

-- what is left of a client without its seat
abbrev pub rest_of : Player → Unseated
rest_of p = record { id = p.id; answers = p.answers; lacked_memory = p.lacked_memory }

abbrev pub player_of : Unseated → SeatState → Player
player_of u seat = record { id = u.id; seat = seat; answers = u.answers; lacked_memory = u.lacked_memory }

-- each with the seat at its place
abbrev pub seated : List Unseated → List SeatState → List Player
seated (u ∷ us) (s ∷ ss) = player_of u s ∷ seated us ss
seated us ss = []

-- something of each, by its number from 1
abbrev pub Each : (ℕ → Player → Type 0) → List Player → Type 0
Each Holds players = (k : ℕ) (p : Player) → slice_get players k ≡ Some p → Holds (suc k) p

abbrev pub AllPlay : List LiveLine → List Player → List Player → Type 0
AllPlay lines olds news = (length news ≡ length olds) × ((k : ℕ) (p q : Player) → slice_get olds k ≡ Some p → slice_get news k ≡ Some q → Plays lines p q)
