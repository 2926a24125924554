-- The lines of a history: a call, or an answer.
use Rattle.std.specs.Prelude.{ℕ, List, ◌++◌, Some, None, codes}
use Rattle.std.specs.List.{flat_map}
use Rattle.std.specs.Fmt.{decimal}
use Rattle.gfs_types.specs.declared.answer.Answer.{Answer}
use Rattle.gfs_types.specs.declared.call.Call.{Call}
use Rattle.gfs_types.specs.declared.call.Call.TheVariants as calls
use Rattle.script.specs.Answers.{hex_of, answer_of}

-- data: `0x`, and two hexadecimal digits for each byte
abbrev pub data_of : List ℕ → List ℕ
data_of bytes = codes "0x" ++ flat_map hex_of bytes

-- a call, as a line that is served has it behind its client
abbrev pub words_of : Call → List ℕ
words_of (calls.Mkdir path) = codes "mkdir " ++ path
words_of (calls.Rmdir path) = codes "rmdir " ++ path
words_of (calls.Create path None) = codes "create " ++ path
words_of (calls.Create path (Some shape)) = codes "create " ++ path ++ codes " " ++ decimal shape.chunk ++ codes " " ++ decimal shape.goal
words_of (calls.Open path) = codes "open " ++ path
words_of (calls.Close fd) = codes "close " ++ decimal fd.0
words_of (calls.Delete path) = codes "delete " ++ path
words_of (calls.Rename from to) = codes "rename " ++ from ++ codes " " ++ to
words_of (calls.List path) = codes "list " ++ path
words_of (calls.Length fd) = codes "length " ++ decimal fd.0
words_of (calls.Snapshot from to) = codes "snapshot " ++ from ++ codes " " ++ to
words_of (calls.Write fd offset bytes) = codes "write " ++ decimal fd.0 ++ codes " " ++ decimal offset ++ codes " " ++ data_of bytes
words_of (calls.Append fd bytes) = codes "append " ++ decimal fd.0 ++ codes " " ++ data_of bytes
words_of (calls.Read fd offset count) = codes "read " ++ decimal fd.0 ++ codes " " ++ decimal offset ++ codes " " ++ decimal count

-- a client's call at a moment, without a line feed
abbrev pub asked_line : ℕ → ℕ → Call → List ℕ
asked_line moment client call = decimal moment ++ codes " c" ++ decimal client ++ codes " " ++ words_of call

-- and its answer
abbrev pub answered_line : ℕ → ℕ → Answer → List ℕ
answered_line moment client answer = decimal moment ++ codes " c" ++ decimal client ++ codes " -> " ++ answer_of answer
