-- What a reader of a file takes, of those records that had been answered when it began (docs/TRUST.md, "What a reader does").
use Rattle.std.specs.Prelude.{◌≡◌, ℕ, ◌+◌, ◌<◌, ◌^◌, List, Contains, IsTrue}
use mathlib.Core.List.{IsPrefix}
use Rattle.gfs_types.specs.declared.answer.Answer.TheVariants as answer
use Rattle.gfs_types.specs.declared.call.Call.TheVariants as call
use Rattle.gfs_types.specs.declared.ids.Fd.{Fd}
use Rattle.gfs_types.specs.declared.ids.Node.TheVariants.{Client}
use Rattle.relaxed_file.specs.Machine.{Machine, chunk_size}
use Rattle.relaxed_file.specs.Run.{IsRunTo, Visible}
use Rattle.protocol_journal.specs.Journal.{observer_of}
use Rattle.promises.specs.Answered.{WasAnswered, IsOf}
use Rattle.promises.specs.Promises.{IsOnlyAppended}
use Rattle.headline.specs.Journals.{AreExplained}
use Rattle.cell_seats.specs.Seats.{SeatState, IsAnswered}
use Rattle.embedded_cell.specs.declared.taken.Taken.{Taken}
use Rattle.embedded_cell.specs.declared.follower.Follower.{Follower}
use Rattle.embedded_cell.specs.Records.{id_of, is_record, StandsAt}

-- all calls and answers that a seat saw, of all clients
abbrev pub trace_of : SeatState → List Visible
trace_of s = (observer_of s.cell.config s.seen).trace

-- a seat later on: it saw the same, and perhaps more behind that
pub record IsLater (old new : SeatState) : Type 0 where
  pub node : new.node ≡ old.node
  pub cell : new.cell ≡ old.cell
  pub begins : IsPrefix old.seen new.seen

-- a record at an offset of the file
abbrev pub taken_at : ℕ → List ℕ → Taken
taken_at offset one = record { id = id_of one; offset = offset }

-- The record of these bytes, which begin at an offset of the file, that stands at this place, below 2^64 in the file, if one does, is among those that were taken.
abbrev pub IsTakenAt : List ℕ → ℕ → ℕ → List Taken → Type 0
IsTakenAt bytes offset place taken = (one : List ℕ) → StandsAt bytes place one → offset + place < 2 ^ 64 → Contains taken (taken_at (offset + place) one)

-- Each record that stands there in these bytes is.
abbrev pub AllTaken : List ℕ → ℕ → List Taken → Type 0
AllTaken bytes offset taken = (place : ℕ) → IsTakenAt bytes offset place taken

-- Between these two states of a reader a read of the file of this descriptor was answered, and each record in it is taken.
pub record HasRead (old : SeatState) (new : Follower) (fd : Fd) (offset count : ℕ) : Type 0 where
  pub before : SeatState
  pub behind : SeatState
  pub found : List ℕ
  pub rounds : List ℕ
  pub first : IsLater old before
  pub read : IsAnswered before behind (call.Read fd offset count) (answer.Bytes found rounds)
  pub last : IsLater behind new.seat
  pub taken : AllTaken found offset new.taken.items

-- The file was opened, and then its length was answered.
pub record HasOpened (old new : SeatState) (path : List ℕ) (fd : Fd) (count : ℕ) : Type 0 where
  pub between : SeatState
  pub opened : IsAnswered old between (call.Open path) (answer.Fd fd)
  pub measured : IsAnswered between new (call.Length fd) (answer.Length count)

-- In a run of the machine with the calls and answers that the reader saw in the end: a record whose append had been answered when the reader
-- began, in the file that its descriptor is of. The file's chunks have 512 bytes, and nobody writes into it, nor into one that it goes back to by snapshots.
pub record WasAppended (old new : SeatState) (m : Machine) (run : IsRunTo new.cell.config (trace_of new) m) (reader : ℕ) (fd : Fd) (offset : ℕ) (one : List ℕ) : Type 0 where
  pub file : ℕ
  pub reads : IsOf run.0 reader fd file
  pub size : chunk_size m file ≡ 512
  pub only_appended : IsOnlyAppended new.cell.config (trace_of new) m run file
  pub client : ℕ
  pub by : Fd
  pub appended : WasAnswered (trace_of old) client (call.Append by one) (answer.At offset)
  pub into : IsOf run.0 client by file
  pub is : IsTrue (is_record one)

-- The calls and answers that the reader saw are a run of the machine; and in each such run the reader opened the file, and each such record
-- of it is taken, with the offset that was answered.
pub record MissesNothing (old new : Follower) (path : List ℕ) : Type 0 where
  pub explained : AreExplained new.seat.cell.config new.seat.seen
  pub takes :
      (reader : ℕ) → new.seat.node ≡ Client (record { 0 = reader })
      → (fd : Fd) × WasAnswered (trace_of new.seat) reader (call.Open path) (answer.Fd fd)
      × ((m : Machine) (run : IsRunTo new.seat.cell.config (trace_of new.seat) m) (offset : ℕ) (one : List ℕ) → WasAppended old.seat new.seat m run reader fd offset one
      → Contains new.taken.items (taken_at offset one))
