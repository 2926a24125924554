-- What the threads of a served cell tell each other.
use Rattle.std.specs.Prelude.{◌≡◌, ◌+◌, ⊤, ℕ, suc, Bool, true, false, List, [], ◌∷◌, ◌++◌, length, slice_get, Option, Some, None, IfSome, Result, OnOk, IfErr, IsTrue}
use mathlib.Core.List.{IsPrefix}
use Rattle.gfs_types.specs.declared.answer.Answer.{Answer}
use Rattle.gfs_types.specs.declared.answer.Answer.TheVariants as answer
use Rattle.gfs_types.specs.declared.call.Call.{Call}
use Rattle.gfs_types.specs.declared.ids.Node.TheVariants.{Client}
use Rattle.gfs_types.specs.Settings.{default_settings}
use Rattle.gfs_types.specs.declared.refusal.Refusal.{Refusal}
use Rattle.protocol_journal.specs.Journal.{Entry, own}
use Rattle.headline.specs.Journals.{AreExplained}
use Rattle.cell_journal.specs.Clocks.{are_clocks_kept}
use Rattle.cell_journal.specs.Identity.{Identity, identity}
use Rattle.cell_journal.specs.Log.{Listed, listed}
use Rattle.cell_journal.specs.WholeHistories.{IsHistoryOf}
use Rattle.cell_journal.specs.declared.retention.Retention.TheVariants.{Whole}
use Rattle.cell_seats.specs.Seats.{SeatState, seat_state, IsAnswered, IsLost, is_the_cells}
use Rattle.cell_seats.specs.Seen.{visible_of}
use Rattle.cell_looks.specs.ClientAnswers.{calls_of, shown_as, AreOfTheCell}
use Rattle.script.specs.Reading.{Leaves}
use Rattle.script.specs.declared.live_lines.LiveLine.{LiveLine}
use Rattle.script.specs.declared.script_fault.ScriptFault.{ScriptFault}
use Rattle.script.specs.declared.script_fault.ScriptFault.TheVariants as fault
use Rattle.serve.specs.Served.{calls_in, calls_served}

-- What is served: the input, where its bytes are known, how many clients there are, and the cell.
pub record Service : Type 0 where
  pub input : Option (List ℕ)
  pub clients : ℕ
  pub cell : Identity

-- where nothing is served
abbrev pub nothing_served : Service
nothing_served = record { input = None; clients = 0; cell = identity (record { number = 0; log_name = 0; cells_name = 0 }) default_settings 0 0 [] [] Whole }

-- the calls that the lines have for a client
abbrev pub calls_for : ℕ → ℕ → List ℕ → List Call
calls_for clients client input = calls_of client (calls_served clients input)

-- an answer of a client behind so many others of it, and whether the cell itself refused the call
pub record Replied : Type 0 where
  pub client : ℕ
  pub number : ℕ
  pub answer : Answer
  pub is_lost : Bool

abbrev pub replied : ℕ → ℕ → Answer → Bool → Replied
replied client number answer is_lost = record { client = client; number = number; answer = answer; is_lost = is_lost }

-- the lines have this call for a client behind so many others of it
pub record IsAsked (s : Service) (client number : ℕ) (call : Call) : Type 0 where
  pub is : IfSome s.input (λ input. slice_get (calls_for s.clients client input) number ≡ Some call)

-- these are the first calls that the lines have for a client
abbrev pub AreFirstCalls : Service → ℕ → List Call → Type 0
AreFirstCalls s client calls = IfSome s.input (λ input. IsPrefix calls (calls_for s.clients client input))

-- A history of the cell, in which clocks were kept, and whose calls and answers are a run of the machine.
pub record IsSeenOf (s : Service) (seen : Listed Entry) : Type 0 where
  pub name : seen.name ≡ s.cell.name
  pub lawful : IsHistoryOf s.cell seen.items
  pub clocks : IsTrue (are_clocks_kept s.cell seen.items)
  pub explained : AreExplained s.cell.config seen.items

-- a history in which a client made its first calls, and was answered so
pub record HasAnswers (s : Service) (client : ℕ) (seen : Listed Entry) (replies : List Answer) : Type 0 where
  pub of : IsSeenOf s seen
  pub calls : List Call
  pub are : AreFirstCalls s client calls
  pub each : length calls ≡ length replies
  pub shows : visible_of (own (Client (record { 0 = client })) seen.items) ≡ shown_as calls replies

-- a seat of the cell, of a client of this number that made no call
abbrev pub IsUnused : Service → ℕ → SeatState → Type 0
IsUnused s client seat = seat ≡ seat_state (Client (record { 0 = client })) [] s.cell [] false false

-- a client that made so many calls; as long as the cell itself refused none of them, it was answered each
pub record IsServed (s : Service) (client made : ℕ) (seat : SeatState) : Type 0 where
  pub node : seat.node ≡ Client (record { 0 = client })
  pub earlier : seat.earlier ≡ []
  pub cell : seat.cell ≡ s.cell
  pub replies : List Answer
  pub answered : HasAnswers s client (listed seat.cell.name seat.seen) replies
  pub count : seat.is_lost ≡ false → length replies ≡ made

-- a history of the cell has this answer to a client last, behind so many others of it
pub record IsHeard (s : Service) (client number : ℕ) (reply : Answer) (seen : Listed Entry) : Type 0 where
  pub before : List Answer
  pub count : length before ≡ number
  pub answered : HasAnswers s client seen (before ++ reply ∷ [])

-- the cell itself refused the client's call behind so many others of it
pub record IsRefused (s : Service) (client number : ℕ) (reply : Answer) : Type 0 where
  pub call : Call
  pub asked : IsAsked s client number call
  pub refusal : Refusal
  pub is : reply ≡ answer.Refused refusal
  pub of_the_cell : IsTrue (is_the_cells refusal)

-- a client's answer behind so many others of it
pub record IsReply (s : Service) (client number : ℕ) (reply : Answer) (seen : Listed Entry) (is_lost : Bool) : Type 0 where
  pub heard : is_lost ≡ false → IsHeard s client number reply seen
  pub refused : is_lost ≡ true → IsRefused s client number reply

-- So many answers of a client were printed: those that this history of the cell has, and then refusals of the cell itself.
pub record IsPrinted (s : Service) (client count : ℕ) (is_lost : Bool) (seen : Listed Entry) (printed : List Answer) : Type 0 where
  pub replies : List Answer
  pub refusals : List Answer
  pub are : printed ≡ replies ++ refusals
  pub count_is : length printed ≡ count
  pub answered : HasAnswers s client seen replies
  pub refused : List Call
  pub each : length refused ≡ length refusals
  pub asked : AreFirstCalls s client (answered.calls ++ refused)
  pub of_the_cell : AreOfTheCell refusals
  pub none_refused : is_lost ≡ false → refusals ≡ []

-- so many calls were handed out to each client: all that these lines have
abbrev pub AreCounts : List ℕ → List LiveLine → Type 0
AreCounts counts lines = (k count : ℕ) → slice_get counts k ≡ Some count → count ≡ length (calls_of (suc k) lines)

-- some lines of the input were read, and their calls were handed out
pub record HaveAsked (s : Service) (from to : Option (List ℕ)) (counts : List ℕ) : Type 0 where
  pub texts : List (List ℕ)
  pub leaves : Leaves from to texts
  pub are : AreCounts counts (calls_in s.clients texts)
  pub clients : length counts ≡ s.clients

-- why no more lines are taken: memory was refused, the reader failed, or nobody hears of what is asked any more
abbrev pub IsOfReading : ScriptFault → Type 0
IsOfReading fault.NoMemory = ⊤
IsOfReading fault.Read = ⊤
IsOfReading fault.Write = ⊤
IsOfReading other = ⊥

-- each client was asked for so many calls: all that the lines have for it, where they were taken to their end
pub record AreAsked (s : Service) (outcome : Result (Unit {0}) ScriptFault) (counts : List ℕ) : Type 0 where
  pub clients : length counts ≡ s.clients
  pub all : OnOk outcome (IfSome s.input (λ input. AreCounts counts (calls_served s.clients input)))
  pub stops : IfErr outcome IsOfReading

-- of these calls the first of each client comes next, behind so many that were handed out
pub record AreNext (s : Service) (counts : List ℕ) (lines : List LiveLine) : Type 0 where
  pub clients : length counts ≡ s.clients
  pub each : (k count : ℕ) (call : Call) → slice_get counts k ≡ Some count → slice_get (calls_of (suc k) lines) 0 ≡ Some call → IsAsked s (suc k) count call

-- these calls more were handed out
pub record AreTaken (old new : List ℕ) (lines : List LiveLine) : Type 0 where
  pub clients : length new ≡ length old
  pub each : (k count : ℕ) → slice_get old k ≡ Some count → slice_get new k ≡ Some (count + length (calls_of (suc k) lines))

-- a call was answered, or the cell itself refused it
pub record IsMade (old new : SeatState) (call : Call) (reply : Answer) (is_lost : Bool) : Type 0 where
  pub heard : is_lost ≡ false → IsAnswered old new call reply
  pub refused : is_lost ≡ true → (refusal : Refusal) × (reply ≡ answer.Refused refusal) × IsLost old new refusal
