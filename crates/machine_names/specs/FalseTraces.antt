-- Traces that are not runs of the relaxed-file machine, of several clients or files (sections 2.7.1 and 3.4).
use Rattle.std.specs.Prelude.{◌≢◌, ℕ, ◌<◌, ◌≤◌, false, List, [], ◌∷◌, ◌++◌, length, Contains, IsFalse}
use Rattle.std.specs.List.{AllByRecursion}
use Rattle.gfs_types.specs.declared.call.Call.{Call}
use Rattle.gfs_types.specs.declared.call.Call.TheVariants as call
use Rattle.gfs_types.specs.declared.answer.Answer.TheVariants as answer
use Rattle.gfs_types.specs.declared.ids.Fd.{Fd}
use Rattle.gfs_types.specs.declared.config.Config.{Config}
use Rattle.gfs_types.specs.Paths.{Path}
use Rattle.relaxed_file.specs.Run.{Visible, Called, Answered, Passed, IsRun}
use Rattle.relaxed_file.specs.NotRuns.{waits}

-- each call was answered by the end of the trace
abbrev pub AllAnswered : List Visible → Type 0
AllAnswered trace = (client : ℕ) → IsFalse (waits client false trace)

-- Two clients open one file, and one of them appends a record and finds it at a round. Then the other's read names that round or a later one, and leaves the record out.
abbrev pub NoSkippedRecord : Type 0
NoSkippedRecord =
    (config : Config) (before later : List Visible) (one two : ℕ) (path : Path) (fd fe : Fd) (bytes : List ℕ) (x round named : ℕ)
    → AllAnswered before → 0 < length bytes → round ≤ named
    → IsRun config (before ++ (Called one (call.Open path) ∷ Answered one (answer.Fd fd)
    ∷ Called two (call.Open path) ∷ Answered two (answer.Fd fe)
    ∷ Called one (call.Append fd bytes) ∷ Answered one (answer.At x)
    ∷ Called one (call.Read fd x (length bytes)) ∷ Answered one (answer.Bytes bytes (round ∷ []))
    ∷ Called two (call.Read fe x (length bytes)) ∷ Answered two (answer.Bytes [] (named ∷ [])) ∷ later)) → ⊥

-- the byte is none of these
abbrev pub Lacks : ℕ → List ℕ → Type 0
Lacks byte bytes = AllByRecursion (λ b. b ≢ byte) bytes

-- the call doesn't write the byte
abbrev pub WritesNone : ℕ → Call → Type 0
WritesNone byte (call.Write fd offset bytes) = Lacks byte bytes
WritesNone byte (call.Append fd bytes) = Lacks byte bytes
WritesNone byte other = Unit {0}

-- no call of the trace writes the byte
abbrev pub TraceWritesNone : ℕ → List Visible → Type 0
TraceWritesNone byte [] = Unit {0}
TraceWritesNone byte (Called client asked ∷ rest) = WritesNone byte asked × TraceWritesNone byte rest
TraceWritesNone byte (Answered client reply ∷ rest) = TraceWritesNone byte rest
TraceWritesNone byte (Passed moment ∷ rest) = TraceWritesNone byte rest

-- A client opens two names and writes one of the files. Then a byte other than 0 that nobody wrote before is read in the other file.
abbrev pub NoByteOfAnotherFile : Type 0
NoByteOfAnotherFile =
    (config : Config) (before later : List Visible) (client : ℕ) (read written : Path) (fd fe : Fd) (offset place count byte : ℕ) (bytes found rounds : List ℕ)
    → AllAnswered before → read ≢ written → byte ≢ 0 → TraceWritesNone byte before → Contains found byte
    → IsRun config (before ++ (Called client (call.Open read) ∷ Answered client (answer.Fd fd)
    ∷ Called client (call.Open written) ∷ Answered client (answer.Fd fe)
    ∷ Called client (call.Write fe offset bytes) ∷ Answered client answer.Done
    ∷ Called client (call.Read fd place count) ∷ Answered client (answer.Bytes found rounds) ∷ later)) → ⊥

-- A file is changed by a write to its snapshot: it shows a byte other than 0 that nobody wrote but to the snapshot.
abbrev pub NoWriteThroughSnapshot : Type 0
NoWriteThroughSnapshot =
    (config : Config) (before later : List Visible) (client : ℕ) (source copy : Path) (fd fe : Fd) (offset place count byte : ℕ) (bytes found rounds : List ℕ)
    → AllAnswered before → source ≢ copy → byte ≢ 0 → TraceWritesNone byte before → Contains found byte
    → IsRun config (before ++ (Called client (call.Snapshot source copy) ∷ Answered client answer.Done
    ∷ Called client (call.Open source) ∷ Answered client (answer.Fd fd)
    ∷ Called client (call.Open copy) ∷ Answered client (answer.Fd fe)
    ∷ Called client (call.Write fe offset bytes) ∷ Answered client answer.Done
    ∷ Called client (call.Read fd place count) ∷ Answered client (answer.Bytes found rounds) ∷ later)) → ⊥

-- And the other way round: a snapshot is changed by a write to the file that it was taken of.
abbrev pub NoWriteIntoSnapshot : Type 0
NoWriteIntoSnapshot =
    (config : Config) (before later : List Visible) (client : ℕ) (source copy : Path) (fd fe : Fd) (offset place count byte : ℕ) (bytes found rounds : List ℕ)
    → AllAnswered before → source ≢ copy → byte ≢ 0 → TraceWritesNone byte before → Contains found byte
    → IsRun config (before ++ (Called client (call.Snapshot source copy) ∷ Answered client answer.Done
    ∷ Called client (call.Open copy) ∷ Answered client (answer.Fd fd)
    ∷ Called client (call.Open source) ∷ Answered client (answer.Fd fe)
    ∷ Called client (call.Write fe offset bytes) ∷ Answered client answer.Done
    ∷ Called client (call.Read fd place count) ∷ Answered client (answer.Bytes found rounds) ∷ later)) → ⊥
