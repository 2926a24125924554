-- What clients saw of a call and its answer, which file a descriptor is of, and where a record stands (section 2.7).
use Rattle.std.specs.Prelude.{◌≡◌, ℕ, ◌+◌, ◌*◌, ◌≤◌, ◌==◌, if◌then◌else◌, List, [], ◌∷◌, ◌++◌, length, Contains, Option, Some, None, IsTrue}
use Rattle.gfs_types.specs.declared.call.Call.{Call}
use Rattle.gfs_types.specs.declared.call.Call.TheVariants as call
use Rattle.gfs_types.specs.declared.answer.Answer.{Answer}
use Rattle.gfs_types.specs.declared.ids.Fd.{Fd}
use Rattle.gfs_types.specs.declared.mutation.Mutation.TheVariants.{Write, Append}
use Rattle.relaxed_file.specs.Order.{Entry}
use Rattle.relaxed_file.specs.Machine.{Machine, chunk_size, chunk_at}
use Rattle.relaxed_file.specs.Run.{Action, ReturnFd, Visible, Called, Answered, Passed}

-- the client's call that waits for an answer after these calls and answers: the last one that it made, unless it was answered since
abbrev pub waiting_call : ℕ → Option Call → List Visible → Option Call
waiting_call client now [] = now
waiting_call client now (Called who asked ∷ rest) = waiting_call client (if client == who then Some asked else now) rest
waiting_call client now (Answered who reply ∷ rest) = waiting_call client (if client == who then None else now) rest
waiting_call client now (Passed moment ∷ rest) = waiting_call client now rest

-- In these calls and answers the client made this call and was answered so.
pub record WasAnswered (trace : List Visible) (client : ℕ) (asked : Call) (reply : Answer) : Type 0 where
  pub before : List Visible
  pub rest : List Visible
  pub is : trace ≡ before ++ Answered client reply ∷ rest
  pub waited : waiting_call client None before ≡ Some asked

-- The client's descriptor is of this file: it was the answer to an Open that found the file.
abbrev pub IsOf : List Action → ℕ → Fd → ℕ → Type 0
IsOf actions client fd file = Contains actions (ReturnFd client fd.0 file)

-- the descriptor that a call is on
abbrev pub fd_of : Call → Option Fd
fd_of (call.Close fd) = Some fd
fd_of (call.Length fd) = Some fd
fd_of (call.Write fd offset bytes) = Some fd
fd_of (call.Append fd bytes) = Some fd
fd_of (call.Read fd offset count) = Some fd
fd_of name_call = None

-- A record at this place of the file: it is settled, at one place of the order of one chunk, and lies whole in that chunk.
pub record IsStandingRecord (m : Machine) (file x : ℕ) (bytes : List ℕ) : Type 0 where
  pub index : ℕ
  pub offset : ℕ
  pub is : x ≡ index * chunk_size m file + offset
  pub room : offset + length bytes ≤ chunk_size m file
  pub before : List Entry
  pub entry : Entry
  pub later : List Entry
  pub order : (chunk_at m file index).order ≡ before ++ entry ∷ later
  pub what : entry.mutation ≡ Append offset bytes
  pub settled : IsTrue entry.settled

-- A write's bytes at this place of one chunk: settled, at one place of the chunk's order.
pub record IsStandingPart (m : Machine) (file index start : ℕ) (bytes : List ℕ) : Type 0 where
  pub before : List Entry
  pub entry : Entry
  pub later : List Entry
  pub order : (chunk_at m file index).order ≡ before ++ entry ∷ later
  pub what : entry.mutation ≡ Write start bytes
  pub settled : IsTrue entry.settled
