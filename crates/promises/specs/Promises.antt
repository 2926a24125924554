-- What users of the files rely on, of each run of the machine, in the words of the calls and answers that they see (sections 2.7 and 3.3).
use Rattle.std.specs.Prelude.{◌≡◌, ℕ, ◌+◌, ◌-◌, ◌*◌, ◌/◌, ◌≤◌, ◌⊎◌, List, ◌++◌, length, take, drop, slice_get, flat_map, filter_map, Contains, Some, IsSomeAnd, IsTrue}
use Rattle.gfs_types.specs.declared.call.Call.{Call}
use Rattle.gfs_types.specs.declared.call.Call.TheVariants as call
use Rattle.gfs_types.specs.declared.answer.Answer.TheVariants as answer
use Rattle.gfs_types.specs.declared.ids.Fd.{Fd}
use Rattle.gfs_types.specs.declared.config.Config.{Config}
use Rattle.relaxed_file.specs.Parts.{has_part, part_start, part_bytes}
use Rattle.relaxed_file.specs.Laws.{LeaveAlone}
use Rattle.relaxed_file.specs.Machine.{Machine, Piece, chunk_size}
use Rattle.relaxed_file.specs.Sources.{sources_of}
use Rattle.relaxed_file.specs.Run.{Action, Visible, Called, IsRunTo, LeadsTo}
use Rattle.relaxed_file.specs.RunLaws.{MayAnswer, WereGiven}
use Rattle.promises.specs.Answered.{WasAnswered, IsOf, fd_of, IsStandingRecord, IsStandingPart}

-- This holds of each run of the machine.
abbrev pub InEachRun : ((config : Config) (trace : List Visible) (m : Machine) → IsRunTo config trace m → Type 0) → Type 0
InEachRun P = (config : Config) (trace : List Visible) (m : Machine) (run : IsRunTo config trace m) → P config trace m run

-- A client's descriptor is of one file for good.
abbrev pub DescriptorsAreOfOneFile : (config : Config) (trace : List Visible) (m : Machine) → IsRunTo config trace m → Type 0
DescriptorsAreOfOneFile config trace m run =
    (client : ℕ) (fd : Fd) (one two : ℕ)
    → IsOf run.0 client fd one → IsOf run.0 client fd two → one ≡ two

-- A record whose append was answered stands in the file of its descriptor (section 3.3).
abbrev pub AnsweredRecordsStand : (config : Config) (trace : List Visible) (m : Machine) → IsRunTo config trace m → Type 0
AnsweredRecordsStand config trace m run =
    (client : ℕ) (fd : Fd) (bytes : List ℕ) (x : ℕ)
    → WasAnswered trace client (call.Append fd bytes) (answer.At x)
    → (file : ℕ) × IsOf run.0 client fd file × IsStandingRecord m file x bytes

-- A record that stands keeps its place for good, in the file and in the order of its chunk.
abbrev pub RecordsKeepTheirPlace : (config : Config) (trace : List Visible) (m : Machine) → IsRunTo config trace m → Type 0
RecordsKeepTheirPlace config trace m run =
    (n : Machine) (file x : ℕ) (bytes : List ℕ) → LeadsTo m n
    → (s : IsStandingRecord m file x bytes)
    → (t : IsStandingRecord n file x bytes) × (t.index ≡ s.index) × (length t.before ≡ length s.before) × (t.entry ≡ s.entry)

-- Two records whose appends to one file were answered share no place of it, whoever appended them and when (section 3.3).
abbrev pub AnsweredRecordsLieApart : (config : Config) (trace : List Visible) (m : Machine) → IsRunTo config trace m → Type 0
AnsweredRecordsLieApart config trace m run =
    (client other file : ℕ) (fd fe : Fd) (one two : List ℕ) (x y : ℕ)
    → (a : WasAnswered trace client (call.Append fd one) (answer.At x)) → IsOf run.0 client fd file
    → (b : WasAnswered trace other (call.Append fe two) (answer.At y)) → IsOf run.0 other fe file
    → (length a.before ≡ length b.before → ⊥)
    → (x + length one ≤ y) ⊎ (y + length two ≤ x)

-- A read that is made after a record was answered, begins no later than it, and whose answer reaches past it, shows it whole; unless a later mutation covers some of it, or the read names a round of the record's chunk that is before that of the record (sections 2.7.1 and 3.3).
abbrev pub RecordsAreRead : (config : Config) (trace : List Visible) (m : Machine) → IsRunTo config trace m → Type 0
RecordsAreRead config trace m run =
    (client reader file : ℕ) (fd fe : Fd) (bytes : List ℕ) (x offset count : ℕ) (found rounds : List ℕ)
    → (one : WasAnswered trace client (call.Append fd bytes) (answer.At x)) → IsOf run.0 client fd file
    → WasAnswered one.rest reader (call.Read fe offset count) (answer.Bytes found rounds) → IsOf run.0 reader fe file
    → offset ≤ x → x + length bytes ≤ offset + length found
    → (s : IsStandingRecord m file x bytes)
    × (LeaveAlone s.offset (length bytes) s.later → IsSomeAnd (slice_get rounds (s.index - offset / chunk_size m file)) (λ named. s.entry.round ≤ named)
    → take (length bytes) (drop (x - offset) found) ≡ bytes)

-- A client's later reads that begin no later than its own records and reach past them show them until they are covered, whatever rounds they name (section 2.7.1).
abbrev pub OwnRecordsAreRead : (config : Config) (trace : List Visible) (m : Machine) → IsRunTo config trace m → Type 0
OwnRecordsAreRead config trace m run =
    (client file : ℕ) (fd fe : Fd) (bytes : List ℕ) (x offset count : ℕ) (found rounds : List ℕ)
    → (one : WasAnswered trace client (call.Append fd bytes) (answer.At x)) → IsOf run.0 client fd file
    → WasAnswered one.rest client (call.Read fe offset count) (answer.Bytes found rounds) → IsOf run.0 client fe file
    → offset ≤ x → x + length bytes ≤ offset + length found
    → (s : IsStandingRecord m file x bytes)
    × (LeaveAlone s.offset (length bytes) s.later → take (length bytes) (drop (x - offset) found) ≡ bytes)

-- Once the appender of a record read it, each later read that begins no later, reaches past it and names that round of the record's chunk or a later one shows it, whoever reads; unless a later mutation covers some of it (section 2.7.1).
abbrev pub SeenRoundsSuffice : (config : Config) (trace : List Visible) (m : Machine) → IsRunTo config trace m → Type 0
SeenRoundsSuffice config trace m run =
    (client reader file : ℕ) (fd fe ff : Fd) (bytes : List ℕ) (x offset count : ℕ) (found rounds : List ℕ) (from many : ℕ) (read named : List ℕ)
    → (one : WasAnswered trace client (call.Append fd bytes) (answer.At x)) → IsOf run.0 client fd file
    → WasAnswered one.rest client (call.Read fe offset count) (answer.Bytes found rounds) → IsOf run.0 client fe file → offset ≤ x → x + length bytes ≤ offset + length found
    → WasAnswered one.rest reader (call.Read ff from many) (answer.Bytes read named) → IsOf run.0 reader ff file → from ≤ x → x + length bytes ≤ from + length read
    → (s : IsStandingRecord m file x bytes)
    × (LeaveAlone s.offset (length bytes) s.later
    → (seen later : ℕ) → slice_get rounds (s.index - offset / chunk_size m file) ≡ Some seen → slice_get named (s.index - from / chunk_size m file) ≡ Some later → seen ≤ later
    → take (length bytes) (drop (x - from) read) ≡ bytes)

-- Nobody asks to write into the file, or into one that it goes back to by snapshots: what is put there is appended.
abbrev pub IsOnlyAppended : (config : Config) (trace : List Visible) (m : Machine) → IsRunTo config trace m → ℕ → Type 0
IsOnlyAppended config trace m run file =
    (client from : ℕ) (fd : Fd) (offset : ℕ) (bytes : List ℕ)
    → Contains trace (Called client (call.Write fd offset bytes)) → IsOf run.0 client fd from → Contains (sources_of config run.0 file) from → ⊥

-- In such a file no record that was answered is ever covered (section 3.3).
abbrev pub AppendsLeaveRecordsAlone : (config : Config) (trace : List Visible) (m : Machine) → IsRunTo config trace m → Type 0
AppendsLeaveRecordsAlone config trace m run =
    (file x : ℕ) (bytes : List ℕ) → IsOnlyAppended config trace m run file → (s : IsStandingRecord m file x bytes) → LeaveAlone s.offset (length bytes) s.later

-- And so a client's later read that begins no later than a record which it appended to such a file, and reaches past it, shows it at the place that it was answered.
abbrev pub AppendedRecordsAreReadBack : (config : Config) (trace : List Visible) (m : Machine) → IsRunTo config trace m → Type 0
AppendedRecordsAreReadBack config trace m run =
    (client file : ℕ) (fd fe : Fd) (bytes : List ℕ) (x offset count : ℕ) (found rounds : List ℕ)
    → (one : WasAnswered trace client (call.Append fd bytes) (answer.At x)) → IsOf run.0 client fd file
    → WasAnswered one.rest client (call.Read fe offset count) (answer.Bytes found rounds) → IsOf run.0 client fe file
    → IsOnlyAppended config trace m run file → offset ≤ x → x + length bytes ≤ offset + length found
    → take (length bytes) (drop (x - offset) found) ≡ bytes

-- Each part of a write that was answered stands in its chunk of the descriptor's file (section 3.1).
abbrev pub AnsweredWritesStand : (config : Config) (trace : List Visible) (m : Machine) → IsRunTo config trace m → Type 0
AnsweredWritesStand config trace m run =
    (client : ℕ) (fd : Fd) (offset : ℕ) (bytes : List ℕ)
    → WasAnswered trace client (call.Write fd offset bytes) answer.Done
    → (file : ℕ) × IsOf run.0 client fd file
    × ((index : ℕ) → IsTrue (has_part (chunk_size m file) offset (length bytes) index) → IsStandingPart m file index (part_start (chunk_size m file) offset index) (part_bytes (chunk_size m file) offset bytes index))

-- where in the file the part of a write in a chunk begins
abbrev pub part_place : ℕ → ℕ → ℕ → ℕ
part_place size offset index = index * size + part_start size offset index

-- A read that is made after a write was answered, begins no later than a part of it, and whose answer reaches past the part, shows the part; unless a later mutation covers some of it, or the read names a round of the chunk that is before that of the part (sections 2.7.1 and 3.1).
abbrev pub WritesAreRead : (config : Config) (trace : List Visible) (m : Machine) → IsRunTo config trace m → Type 0
WritesAreRead config trace m run =
    (client reader file : ℕ) (fd fe : Fd) (offset : ℕ) (bytes : List ℕ) (from count : ℕ) (found rounds : List ℕ)
    → (one : WasAnswered trace client (call.Write fd offset bytes) answer.Done) → IsOf run.0 client fd file
    → WasAnswered one.rest reader (call.Read fe from count) (answer.Bytes found rounds) → IsOf run.0 reader fe file
    → (index : ℕ) → IsTrue (has_part (chunk_size m file) offset (length bytes) index)
    → from ≤ part_place (chunk_size m file) offset index → part_place (chunk_size m file) offset index + length (part_bytes (chunk_size m file) offset bytes index) ≤ from + length found
    → (s : IsStandingPart m file index (part_start (chunk_size m file) offset index) (part_bytes (chunk_size m file) offset bytes index))
    × (LeaveAlone (part_start (chunk_size m file) offset index) (length (part_bytes (chunk_size m file) offset bytes index)) s.later
    → IsSomeAnd (slice_get rounds (index - from / chunk_size m file)) (λ named. s.entry.round ≤ named)
    → take (length (part_bytes (chunk_size m file) offset bytes index)) (drop (part_place (chunk_size m file) offset index - from) found) ≡ part_bytes (chunk_size m file) offset bytes index)

-- A client's later reads that begin no later than parts of its own writes and reach past them show them until they are covered, whatever rounds they name (section 2.7.1).
abbrev pub OwnWritesAreRead : (config : Config) (trace : List Visible) (m : Machine) → IsRunTo config trace m → Type 0
OwnWritesAreRead config trace m run =
    (client file : ℕ) (fd fe : Fd) (offset : ℕ) (bytes : List ℕ) (from count : ℕ) (found rounds : List ℕ)
    → (one : WasAnswered trace client (call.Write fd offset bytes) answer.Done) → IsOf run.0 client fd file
    → WasAnswered one.rest client (call.Read fe from count) (answer.Bytes found rounds) → IsOf run.0 client fe file
    → (index : ℕ) → IsTrue (has_part (chunk_size m file) offset (length bytes) index)
    → from ≤ part_place (chunk_size m file) offset index → part_place (chunk_size m file) offset index + length (part_bytes (chunk_size m file) offset bytes index) ≤ from + length found
    → (s : IsStandingPart m file index (part_start (chunk_size m file) offset index) (part_bytes (chunk_size m file) offset bytes index))
    × (LeaveAlone (part_start (chunk_size m file) offset index) (length (part_bytes (chunk_size m file) offset bytes index)) s.later
    → take (length (part_bytes (chunk_size m file) offset bytes index)) (drop (part_place (chunk_size m file) offset index - from) found) ≡ part_bytes (chunk_size m file) offset bytes index)

-- the byte is what the call asks to put at this place of a file; for an append, whose place the system picks, it is in the record
abbrev pub Puts : Call → ℕ → ℕ → Type 0
Puts (call.Write fd offset bytes) place byte = (offset ≤ place) × (slice_get bytes (place - offset) ≡ Some byte)
Puts (call.Append fd bytes) place byte = Contains bytes byte
Puts other place byte = ⊥

-- A call that was seen before asked to put the byte at this place, or in a record, in the file or in one that it goes back to by snapshots at a moment of the run.
pub record WasPut (config : Config) (actions : List Action) (seen : List Visible) (file place byte : ℕ) : Type 0 where
  pub client : ℕ
  pub asked : Call
  pub called : Contains seen (Called client asked)
  pub puts : Puts asked place byte
  pub so_far : List Action
  pub left : List Action
  pub goes : actions ≡ so_far ++ left
  pub fd : Fd
  pub on : fd_of asked ≡ Some fd
  pub from : ℕ
  pub is_of : IsOf so_far client fd from
  pub source : Contains (sources_of config so_far file) from

-- Each byte that a read was answered is zero, or one that a call made before the answer asked to put there (sections 2.7.1 and 3.4).
abbrev pub NoOtherByteIsRead : (config : Config) (trace : List Visible) (m : Machine) → IsRunTo config trace m → Type 0
NoOtherByteIsRead config trace m run =
    (client file : ℕ) (fd : Fd) (offset count : ℕ) (found rounds : List ℕ)
    → (w : WasAnswered trace client (call.Read fd offset count) (answer.Bytes found rounds)) → IsOf run.0 client fd file
    → (place byte : ℕ) → slice_get found place ≡ Some byte
    → (byte ≡ 0) ⊎ WasPut config run.0 w.before file (offset + place) byte

-- A read is answered what states of the run during the call gave, chunk by chunk from where its range begins, and the rounds of these; nothing settled up to such a round is left out (sections 2.4 and 2.7.1).
abbrev pub ReadsAreSelections : (config : Config) (trace : List Visible) (m : Machine) → IsRunTo config trace m → Type 0
ReadsAreSelections config trace m run =
    (client file : ℕ) (fd : Fd) (offset count : ℕ) (found rounds : List ℕ)
    → (w : WasAnswered trace client (call.Read fd offset count) (answer.Bytes found rounds)) → IsOf run.0 client fd file
    → (then : Machine) × IsRunTo config w.before then × LeadsTo then m × MayAnswer then client file (call.Read fd offset count) (answer.Bytes found rounds)
    × (pieces : List Piece) × WereGiven config then client file offset count (offset / chunk_size then file) pieces
    × (found ≡ flat_map (λ piece. piece.bytes) pieces) × (rounds ≡ filter_map (λ piece. piece.round) pieces)

-- A Length that is asked after a record was answered reaches the record's end, whoever asks (section 2.4).
abbrev pub LengthsReachRecords : (config : Config) (trace : List Visible) (m : Machine) → IsRunTo config trace m → Type 0
LengthsReachRecords config trace m run =
    (client reader file : ℕ) (fd fe : Fd) (bytes : List ℕ) (x found : ℕ)
    → (one : WasAnswered trace client (call.Append fd bytes) (answer.At x)) → IsOf run.0 client fd file
    → WasAnswered one.rest reader (call.Length fe) (answer.Length found) → IsOf run.0 reader fe file
    → x + length bytes ≤ found

-- A read that was answered is of the file of its descriptor.
abbrev pub AnsweredReadsHaveAFile : (config : Config) (trace : List Visible) (m : Machine) → IsRunTo config trace m → Type 0
AnsweredReadsHaveAFile config trace m run =
    (client : ℕ) (fd : Fd) (offset count : ℕ) (found rounds : List ℕ)
    → WasAnswered trace client (call.Read fd offset count) (answer.Bytes found rounds) → (file : ℕ) × IsOf run.0 client fd file

-- All of these.
pub record Promises (config : Config) (trace : List Visible) (m : Machine) (run : IsRunTo config trace m) : Type 0 where
  pub one_file : DescriptorsAreOfOneFile config trace m run
  -- what was answered stands
  pub records : AnsweredRecordsStand config trace m run
  pub places : RecordsKeepTheirPlace config trace m run
  pub apart : AnsweredRecordsLieApart config trace m run
  pub writes : AnsweredWritesStand config trace m run
  -- and is read
  pub own_records : OwnRecordsAreRead config trace m run
  pub records_read : RecordsAreRead config trace m run
  pub seen_rounds : SeenRoundsSuffice config trace m run
  pub left_alone : AppendsLeaveRecordsAlone config trace m run
  pub read_back : AppendedRecordsAreReadBack config trace m run
  pub own_writes : OwnWritesAreRead config trace m run
  pub writes_read : WritesAreRead config trace m run
  pub lengths : LengthsReachRecords config trace m run
  -- and nothing else
  pub read_files : AnsweredReadsHaveAFile config trace m run
  pub reads : ReadsAreSelections config trace m run
  pub bytes : NoOtherByteIsRead config trace m run
