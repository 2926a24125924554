-- What a call may be answered: what it asks for, or a refusal.
use Rattle.std.specs.Prelude.{◌≡◌, ℕ, Bool, true, false, ◌⊎◌, List, IsTrue}
use Rattle.gfs_types.specs.declared.answer.Answer.{Answer}
use Rattle.gfs_types.specs.declared.answer.Answer.TheVariants as answer
use Rattle.gfs_types.specs.declared.call.Call.{Call}
use Rattle.gfs_types.specs.declared.call.Call.TheVariants as call
use Rattle.gfs_types.specs.declared.config.Config.{Config}
use Rattle.gfs_types.specs.declared.refusal.Refusal.{Refusal}
use Rattle.relaxed_file.specs.Machine.{Machine}
use Rattle.relaxed_file.specs.Run.{Visible, IsRunTo}
use Rattle.promises.specs.Answered.{WasAnswered}

-- what is answered where a call was done, by kinds of calls
abbrev pub is_done : Answer → Bool
is_done answer.Done = true
is_done other = false

abbrev pub is_descriptor : Answer → Bool
is_descriptor (answer.Fd fd) = true
is_descriptor other = false

abbrev pub is_names : Answer → Bool
is_names (answer.Names names) = true
is_names other = false

abbrev pub is_length : Answer → Bool
is_length (answer.Length count) = true
is_length other = false

abbrev pub is_offset : Answer → Bool
is_offset (answer.At offset) = true
is_offset other = false

abbrev pub is_bytes : Answer → Bool
is_bytes (answer.Bytes bytes rounds) = true
is_bytes other = false

-- whether an answer says that this call was done
abbrev pub is_value_of : Call → Answer → Bool
is_value_of (call.Open path) = is_descriptor
is_value_of (call.List path) = is_names
is_value_of (call.Length fd) = is_length
is_value_of (call.Append fd bytes) = is_offset
is_value_of (call.Read fd offset count) = is_bytes
is_value_of other = is_done

-- an answer that a call may have
abbrev pub IsAnswerTo : Call → Answer → Type 0
IsAnswerTo asked reply = IsTrue (is_value_of asked reply) ⊎ ((refusal : Refusal) × (reply ≡ answer.Refused refusal))

-- In a run of the machine each call that is answered has such an answer.
abbrev pub CallsHaveTheirAnswers : (config : Config) (trace : List Visible) (m : Machine) → IsRunTo config trace m → Type 0
CallsHaveTheirAnswers config trace m run = (client : ℕ) (asked : Call) (reply : Answer) → WasAnswered trace client asked reply → IsAnswerTo asked reply
