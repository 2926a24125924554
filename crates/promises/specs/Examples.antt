-- A worked trace, as a check of the definitions.
use Rattle.std.specs.Prelude.{[], ◌∷◌, ◌++◌, codes}
use Rattle.gfs_types.specs.declared.call.Call.TheVariants as call
use Rattle.gfs_types.specs.declared.answer.Answer.TheVariants as answer
use Rattle.relaxed_file.specs.Traces.{fd, record_a, record_b, two_rounds_trace}
use Rattle.promises.specs.Answered.{WasAnswered}

-- In the trace of two rounds client 1's first record was answered the file's beginning, and client 2 read it afterwards at round 1.
abbrev pub RecordIsReadAfterwards : Type 0
RecordIsReadAfterwards =
    (one : WasAnswered two_rounds_trace 1 (call.Append (fd 1) record_a) (answer.At 0))
    × WasAnswered one.rest 2 (call.Read (fd 1) 0 64) (answer.Bytes record_a (1 ∷ []))

-- In the trace of two rounds client 1's second record was answered at 26, client 2 opened the file again, and then read the chunk from its beginning.
abbrev pub RecordIsReadAfterOpen : Type 0
RecordIsReadAfterOpen =
    (append : WasAnswered two_rounds_trace 1 (call.Append (fd 1) record_b) (answer.At 26))
    × (open_file : WasAnswered append.rest 2 (call.Open (codes "/f")) (answer.Fd (fd 2)))
    × WasAnswered open_file.rest 2 (call.Read (fd 2) 0 64) (answer.Bytes (record_a ++ record_b ++ record_b) (2 ∷ []))
