-- What a reader relies on that opens a file again before it reads, of each run of the machine, in the words of calls and answers (sections 2.4, 2.7 and 3.3).
use Rattle.std.specs.Prelude.{◌≡◌, ℕ, ◌+◌, ◌-◌, ◌*◌, ◌/◌, ◌≤◌, List, length, take, drop, IsTrue}
use Rattle.gfs_types.specs.declared.call.Call.{Call}
use Rattle.gfs_types.specs.declared.call.Call.TheVariants as call
use Rattle.gfs_types.specs.declared.answer.Answer.{Answer}
use Rattle.gfs_types.specs.declared.answer.Answer.TheVariants as answer
use Rattle.gfs_types.specs.declared.ids.Fd.{Fd}
use Rattle.gfs_types.specs.declared.config.Config.{Config}
use Rattle.gfs_types.specs.Paths.{Path}
use Rattle.relaxed_file.specs.Laws.{LeaveAlone}
use Rattle.relaxed_file.specs.Parts.{has_part, part_start, part_bytes}
use Rattle.relaxed_file.specs.Machine.{Machine, chunk_size}
use Rattle.relaxed_file.specs.Run.{Action, Visible, IsRunTo}
use Rattle.promises.specs.Answered.{WasAnswered, IsOf, IsStandingRecord, IsStandingPart}
use Rattle.promises.specs.Promises.{IsOnlyAppended, part_place}

-- A call on the file was answered; after that the reader's Open of that file was made and answered; and after that a read of the file, through the new descriptor or another one of the reader.
pub record IsReadAfterOpen (trace : List Visible) (actions : List Action) (client : ℕ) (fd : Fd) (asked : Call) (reply : Answer) (file reader offset count : ℕ) (found rounds : List ℕ) : Type 0 where
  pub put : WasAnswered trace client asked reply
  pub put_of : IsOf actions client fd file
  pub path : Path
  pub opened : Fd
  pub open_file : WasAnswered put.rest reader (call.Open path) (answer.Fd opened)
  pub open_of : IsOf actions reader opened file
  pub through : Fd
  pub read : WasAnswered open_file.rest reader (call.Read through offset count) (answer.Bytes found rounds)
  pub read_of : IsOf actions reader through file

-- Such a read shows a record that was answered before whole, if it begins no later and its answer reaches past it, whatever rounds it names; unless a later mutation covers some of it (sections 2.4 and 2.7.1).
abbrev pub ReopenedFilesShowRecords : (config : Config) (trace : List Visible) (m : Machine) → IsRunTo config trace m → Type 0
ReopenedFilesShowRecords config trace m run =
    (client : ℕ) (fd : Fd) (file x reader offset count : ℕ) (bytes found rounds : List ℕ)
    → IsReadAfterOpen trace run.0 client fd (call.Append fd bytes) (answer.At x) file reader offset count found rounds
    → offset ≤ x → x + length bytes ≤ offset + length found
    → (s : IsStandingRecord m file x bytes)
    × (LeaveAlone s.offset (length bytes) s.later → take (length bytes) (drop (x - offset) found) ≡ bytes)

-- Such a read whose range begins in the record's chunk, and reaches the record's end, is answered no fewer bytes than reach that end (section 2.7.1).
abbrev pub AnswersReachRecords : (config : Config) (trace : List Visible) (m : Machine) → IsRunTo config trace m → Type 0
AnswersReachRecords config trace m run =
    (client : ℕ) (fd : Fd) (file x reader offset count : ℕ) (bytes found rounds : List ℕ)
    → IsReadAfterOpen trace run.0 client fd (call.Append fd bytes) (answer.At x) file reader offset count found rounds
    → offset / chunk_size m file ≡ x / chunk_size m file → x + length bytes ≤ offset + count
    → x + length bytes ≤ offset + length found

-- So such a read shows the record whole where its range begins at the record or before it, unless a later mutation covers some of it.
abbrev pub ReadersMissNothing : (config : Config) (trace : List Visible) (m : Machine) → IsRunTo config trace m → Type 0
ReadersMissNothing config trace m run =
    (client : ℕ) (fd : Fd) (file x reader offset count : ℕ) (bytes found rounds : List ℕ)
    → IsReadAfterOpen trace run.0 client fd (call.Append fd bytes) (answer.At x) file reader offset count found rounds
    → offset / chunk_size m file ≡ x / chunk_size m file → offset ≤ x → x + length bytes ≤ offset + count
    → (s : IsStandingRecord m file x bytes)
    × (LeaveAlone s.offset (length bytes) s.later → take (length bytes) (drop (x - offset) found) ≡ bytes)

-- And in a file that is only appended to it always does.
abbrev pub ReadersMissNoAppend : (config : Config) (trace : List Visible) (m : Machine) → IsRunTo config trace m → Type 0
ReadersMissNoAppend config trace m run =
    (client : ℕ) (fd : Fd) (file x reader offset count : ℕ) (bytes found rounds : List ℕ)
    → IsReadAfterOpen trace run.0 client fd (call.Append fd bytes) (answer.At x) file reader offset count found rounds → IsOnlyAppended config trace m run file
    → offset / chunk_size m file ≡ x / chunk_size m file → offset ≤ x → x + length bytes ≤ offset + count
    → take (length bytes) (drop (x - offset) found) ≡ bytes

-- Of such a file a reader that opened it again reads each record that was answered before, when it reads the record's chunk from the beginning to the end.
abbrev pub WholeChunksMissNothing : (config : Config) (trace : List Visible) (m : Machine) → IsRunTo config trace m → Type 0
WholeChunksMissNothing config trace m run =
    (client : ℕ) (fd : Fd) (file x reader : ℕ) (bytes found rounds : List ℕ)
    → IsReadAfterOpen trace run.0 client fd (call.Append fd bytes) (answer.At x) file reader (x / chunk_size m file * chunk_size m file) (chunk_size m file) found rounds → IsOnlyAppended config trace m run file
    → take (length bytes) (drop (x - x / chunk_size m file * chunk_size m file) found) ≡ bytes

-- A read after an Open shows each part of a write that was answered before, if it begins no later than the part and its answer reaches past it, whatever rounds it names; unless a later mutation covers some of it (sections 2.4 and 2.7.1).
abbrev pub ReopenedFilesShowWrites : (config : Config) (trace : List Visible) (m : Machine) → IsRunTo config trace m → Type 0
ReopenedFilesShowWrites config trace m run =
    (client : ℕ) (fd : Fd) (file place reader offset count : ℕ) (bytes found rounds : List ℕ)
    → IsReadAfterOpen trace run.0 client fd (call.Write fd place bytes) answer.Done file reader offset count found rounds
    → (index : ℕ) → IsTrue (has_part (chunk_size m file) place (length bytes) index)
    → offset ≤ part_place (chunk_size m file) place index → part_place (chunk_size m file) place index + length (part_bytes (chunk_size m file) place bytes index) ≤ offset + length found
    → (s : IsStandingPart m file index (part_start (chunk_size m file) place index) (part_bytes (chunk_size m file) place bytes index))
    × (LeaveAlone (part_start (chunk_size m file) place index) (length (part_bytes (chunk_size m file) place bytes index)) s.later
    → take (length (part_bytes (chunk_size m file) place bytes index)) (drop (part_place (chunk_size m file) place index - offset) found) ≡ part_bytes (chunk_size m file) place bytes index)

-- Such a read whose range begins in the part's chunk, and reaches the part's end, is answered no fewer bytes than reach that end (section 2.7.1).
abbrev pub AnswersReachWrites : (config : Config) (trace : List Visible) (m : Machine) → IsRunTo config trace m → Type 0
AnswersReachWrites config trace m run =
    (client : ℕ) (fd : Fd) (file place reader offset count : ℕ) (bytes found rounds : List ℕ)
    → IsReadAfterOpen trace run.0 client fd (call.Write fd place bytes) answer.Done file reader offset count found rounds
    → (index : ℕ) → IsTrue (has_part (chunk_size m file) place (length bytes) index)
    → offset / chunk_size m file ≡ index → part_place (chunk_size m file) place index + length (part_bytes (chunk_size m file) place bytes index) ≤ offset + count
    → part_place (chunk_size m file) place index + length (part_bytes (chunk_size m file) place bytes index) ≤ offset + length found

-- So such a read shows the part whole where its range begins at the part or before it, unless a later mutation covers some of it.
abbrev pub ReadersMissNoWrite : (config : Config) (trace : List Visible) (m : Machine) → IsRunTo config trace m → Type 0
ReadersMissNoWrite config trace m run =
    (client : ℕ) (fd : Fd) (file place reader offset count : ℕ) (bytes found rounds : List ℕ)
    → IsReadAfterOpen trace run.0 client fd (call.Write fd place bytes) answer.Done file reader offset count found rounds
    → (index : ℕ) → IsTrue (has_part (chunk_size m file) place (length bytes) index)
    → offset / chunk_size m file ≡ index → offset ≤ part_place (chunk_size m file) place index → part_place (chunk_size m file) place index + length (part_bytes (chunk_size m file) place bytes index) ≤ offset + count
    → (s : IsStandingPart m file index (part_start (chunk_size m file) place index) (part_bytes (chunk_size m file) place bytes index))
    × (LeaveAlone (part_start (chunk_size m file) place index) (length (part_bytes (chunk_size m file) place bytes index)) s.later
    → take (length (part_bytes (chunk_size m file) place bytes index)) (drop (part_place (chunk_size m file) place index - offset) found) ≡ part_bytes (chunk_size m file) place bytes index)
