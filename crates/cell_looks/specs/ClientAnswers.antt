-- A client of a running cell: the calls that it makes, and what it is answered.
use Rattle.std.specs.Prelude.{◌≡◌, ⊤, ℕ, suc, ◌≤◌, ◌==◌, if◌then◌else◌, List, [], ◌∷◌, ◌++◌, length, replicate, IsTrue, All}
use Rattle.std.specs.List.{flat_map}
use mathlib.Core.List.{IsPrefix}
use Rattle.gfs_types.specs.declared.answer.Answer.{Answer}
use Rattle.gfs_types.specs.declared.answer.Answer.TheVariants as answer
use Rattle.gfs_types.specs.declared.call.Call.{Call}
use Rattle.gfs_types.specs.declared.ids.Node.{Node}
use Rattle.gfs_types.specs.declared.ids.Node.TheVariants.{Client}
use Rattle.script.specs.declared.live_lines.LiveLine.{LiveLine}
use Rattle.script.specs.declared.live_lines.LiveLine.TheVariants as lines
use Rattle.protocol_journal.specs.Journal.{Entry, own}
use Rattle.cell_seats.specs.Seen.{Visible, Asked, Answered, visible_of, answered_only}
use Rattle.cell_seats.specs.Seats.{is_the_cells}

-- the calls of the client of this number, in order
abbrev pub calls_on : ℕ → LiveLine → List Call
calls_on client (lines.Calls times asked) = if asked.client.0 == client then replicate times asked.call else []
calls_on client other = []

abbrev pub calls_of : ℕ → List LiveLine → List Call
calls_of client [] = []
calls_of client (line ∷ rest) = calls_on client line ++ calls_of client rest

-- calls with their answers, one after another, as a journal shows them
abbrev pub shown_as : List Call → List Answer → List Visible
shown_as (call ∷ calls) (reply ∷ replies) = Asked call ∷ Answered reply ∷ shown_as calls replies
shown_as calls replies = []

-- refusals of the cell itself
abbrev pub AreOfTheCell : List Answer → Type 0
AreOfTheCell [] = ⊤
AreOfTheCell (answer.Refused refusal ∷ rest) = IsTrue (is_the_cells refusal) × AreOfTheCell rest
AreOfTheCell (other ∷ rest) = ⊥

-- a client's calls between two lines at which its cell is parked: those that were answered, and those that the cell itself refused
pub record Stretch : Type 0 where
  pub heard : List Call
  pub answers : List Answer
  pub refused : List Call
  pub refusals : List Answer

abbrev pub calls_in : Stretch → List Call
calls_in s = s.heard ++ s.refused

abbrev pub replies_in : Stretch → List Answer
replies_in s = s.answers ++ s.refusals

abbrev pub heard_in : Stretch → List Visible
heard_in s = shown_as s.heard s.answers

-- each call has its answer, and once the cell itself refused one, all later ones have refusals of the cell
pub record IsStretch (s : Stretch) : Type 0 where
  pub each : length s.answers ≡ length s.heard
  pub all : length s.refusals ≡ length s.refused
  pub of_the_cell : AreOfTheCell s.refusals

-- These calls were answered so, in one stretch more at most than the cell was parked. Of each stretch the journal shows the first calls.
pub record AreAnswered (shown : List Visible) (reopens : ℕ) (calls : List Call) (replies : List Answer) : Type 0 where
  pub stretches : List Stretch
  pub count : length stretches ≤ suc reopens
  pub are : All IsStretch stretches
  pub calls_are : calls ≡ flat_map calls_in stretches
  pub replies_are : replies ≡ flat_map replies_in stretches
  pub shows : shown ≡ flat_map heard_in stretches

-- the first of the numbers that a client had
abbrev pub first_number : List Node → Node → Node
first_number [] now = now
first_number (n ∷ rest) now = n

-- what these entries have of a client: its answered calls under each number that it had before, and all under the one that it has
abbrev pub shown_under : List Node → Node → List Entry → List Visible
shown_under earlier now seen = flat_map (λ n. answered_only (visible_of (own n seen))) earlier ++ visible_of (own now seen)

-- A client, of this number at first, made these calls and was answered so: a beginning of this history shows all answers but refusals 19 to 21, which are the cell's own, and behind the first of which come such alone until the cell is parked. It had one number more at most than its cell was parked.
pub record HasAnswers (entries : List Entry) (client reopens : ℕ) (calls : List Call) (replies : List Answer) : Type 0 where
  pub seen : List Entry
  pub begins : IsPrefix seen entries
  pub earlier : List Node
  pub now : Node
  pub first : first_number earlier now ≡ Client (record { 0 = client })
  pub few : length earlier ≤ reopens
  pub answered : AreAnswered (shown_under earlier now seen) reopens calls replies
