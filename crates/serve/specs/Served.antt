-- What the lines of an input ask clients for, and what is printed.
use Rattle.std.specs.Prelude.{ℕ, ◌==◌, ◌&&◌, nat_lt, nat_le, if◌then◌else◌, List, [], ◌∷◌, ◌++◌, Option, Some, codes}
use Rattle.std.specs.List.{flat_map}
use Rattle.std.specs.Fmt.{decimal}
use Rattle.gfs_types.specs.declared.answer.Answer.{Answer}
use Rattle.script.specs.declared.live_lines.LiveLine.{LiveLine}
use Rattle.script.specs.declared.live_lines.LiveLine.TheVariants as lines
use Rattle.script.specs.Reading.{lines_in}
use Rattle.serve_lines.specs.Lines.{served_line_of}
use Rattle.serve_lines.specs.declared.lines.ServedLine.{ServedLine}
use Rattle.serve_lines.specs.declared.lines.ServedLine.TheVariants.{Call as Asked}
use Rattle.cell_looks.specs.ToldLines.{told_line}

-- a call by one of the first so many clients
abbrev pub call_in : ℕ → Option ServedLine → List LiveLine
call_in clients (Some (Asked asked)) = if nat_lt 0 asked.client.0 && nat_le asked.client.0 clients then lines.Calls 1 asked ∷ [] else []
call_in clients other = []

-- the calls of these lines by the first so many clients, in order
abbrev pub calls_in : ℕ → List (List ℕ) → List LiveLine
calls_in clients texts = flat_map (λ text. call_in clients (served_line_of text)) texts

abbrev pub calls_served : ℕ → List ℕ → List LiveLine
calls_served clients input = calls_in clients (lines_in input)

-- what is printed: an answer to a client, or how much room there was
pub data Printed : Type 0 where
  Answers : (client : ℕ) (answer : Answer) → Printed
  Room : (steps : ℕ) → Printed

-- what is printed of the room in a journal, without a line feed
abbrev pub room_line : ℕ → List ℕ
room_line steps = codes "room " ++ decimal steps

abbrev pub printed_text : Printed → List ℕ
printed_text (Answers client answer) = told_line client answer
printed_text (Room steps) = room_line steps ++ 10 ∷ []

-- the answers to a client among what was printed
abbrev pub answers_to : ℕ → List Printed → List Answer
answers_to client [] = []
answers_to client (Answers who answer ∷ rest) = if who == client then answer ∷ answers_to client rest else answers_to client rest
answers_to client (Room steps ∷ rest) = answers_to client rest
