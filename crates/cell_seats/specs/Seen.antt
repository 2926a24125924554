-- What is seen of a client's steps.
use Rattle.std.specs.Prelude.{◌≡◌, ◌⊎◌, ℕ, suc, Bool, true, false, ◌==◌, if◌then◌else◌, List, [], ◌∷◌, ◌++◌, Option, Some, None, Result, Ok, IsTrue}
use mathlib.Core.List.{IsPrefix}
use Rattle.gfs_types.specs.declared.answer.Answer.{Answer}
use Rattle.gfs_types.specs.declared.call.Call.{Call}
use Rattle.gfs_types.specs.declared.ids.Node.{Node}
use Rattle.gfs_types.specs.declared.ids.Node.TheVariants.{Client}
use Rattle.gfs_types.specs.declared.refusal.Refusal.{Refusal}
use Rattle.gfs_types.specs.declared.refusal.Refusal.TheVariants.{ClockBroken}
use Rattle.relaxed_file.specs.Run as run
use Rattle.protocol_journal.specs.Journal.{StepCause, Calls, Entry, own}
use Rattle.cell_journal.specs.Log.{Listed}
use Rattle.cell_journal.specs.Clocks.{are_clocks_kept}
use Rattle.cell_journal.specs.declared.view.View.{View}
use Rattle.cell_journal.specs.Rules.{IsJournalOf}
use Rattle.cell_journal.specs.WholeHistories.{all_seen, LeaveRetired}
use Rattle.cell_journal.specs.Writers.{IsSeen}
use Rattle.cell_seats.specs.declared.client_call.AnsweredCall.{AnsweredCall}
use Rattle.cell_seats.specs.declared.client_call.CallFault.{CallFault}

-- what is seen of a client from outside: its calls and their answers
pub data Visible : Type 0 where
  Asked : (call : Call) → Visible
  Answered : (reply : Answer) → Visible

abbrev pub asked_in : StepCause → List Visible
asked_in (Calls call) = Asked call ∷ []
asked_in other = []

abbrev pub answered_in : Option Answer → List Visible
answered_in None = []
answered_in (Some reply) = Answered reply ∷ []

abbrev pub visible_of : List Entry → List Visible
visible_of [] = []
visible_of (e ∷ rest) = asked_in e.cause ++ answered_in e.out.answer ++ visible_of rest

-- a client's own calls and answers among those of all
abbrev pub of_client : ℕ → List run.Visible → List Visible
of_client client [] = []
of_client client (run.Called who call ∷ rest) = if who == client then Asked call ∷ of_client client rest else of_client client rest
of_client client (run.Answered who reply ∷ rest) = if who == client then Answered reply ∷ of_client client rest else of_client client rest
of_client client (run.Passed moment ∷ rest) = of_client client rest

-- the same cell, of which no less was seen
pub record IsFurther (v w : View) : Type 0 where
  pub of : w.of ≡ v.of
  pub grows : IsPrefix v.seen w.seen

-- a history in which clocks were kept was seen whole, with all steps of the client
pub record HasSeen (n : Node) (w : View) (beginning : Listed Entry) (count : ℕ) : Type 0 where
  pub seen : IsSeen w beginning count
  pub lawful : IsJournalOf w.of w.seen
  pub clocks : IsTrue (are_clocks_kept w.of (all_seen w))
  pub own_is : w.mine ≡ own n w.seen
  pub leaves : LeaveRetired w.of w.seen

-- a step's answer, if it has one, is given with the history as it was seen then
abbrev pub IsAnsweredCall : Result (Option Answer) Refusal → Listed Entry → ℕ → Option AnsweredCall → Type 0
IsAnsweredCall answer beginning count None = answer ≡ Ok None
IsAnsweredCall answer beginning count (Some h) = (answer ≡ Ok (Some h.answer)) × (h.beginning ≡ beginning) × (h.count ≡ count)

-- The client was answered, and has seen all the history up to that; or nothing more is seen of it.
abbrev pub ShowsAnswer : Node → List Visible → View → Option AnsweredCall → Type 0
ShowsAnswer n before w None = visible_of w.mine ≡ before
ShowsAnswer n before w (Some h) = (visible_of w.mine ≡ before ++ Answered h.answer ∷ []) × HasSeen n w h.beginning h.count

-- it is said that clocks were not kept, and they were not
abbrev pub AreBroken : View → Refusal → Type 0
AreBroken w refusal = (refusal ≡ ClockBroken) × (are_clocks_kept w.of (all_seen w) ≡ false)

-- a step that ended with a refusal of the cell itself was not taken; or clocks were not kept
abbrev pub TookNone : (v w : View) (refusal : Refusal) → Type 0
TookNone v w refusal = (w.mine ≡ v.mine) ⊎ AreBroken w refusal

-- a call waits that was made, or none was
abbrev pub Waits : (before after : List Entry) (call : Call) (stands : Bool) → Type 0
Waits before after call true = visible_of after ≡ visible_of before ++ Asked call ∷ []
Waits before after call false = after ≡ before

-- A call that the cell itself refused was not made, or was and waits for its answer; or clocks were not kept.
abbrev pub StaysUnanswered : (v : View) (call : Call) (w : View) (fault : CallFault) → Type 0
StaysUnanswered v call w fault = Waits v.mine w.mine call fault.stands ⊎ AreBroken w fault.refusal

-- calls with their answers, from the first one on; a call that was not answered ends them
abbrev pub answered_only : List Visible → List Visible
answered_only (Asked call ∷ Answered reply ∷ rest) = Asked call ∷ Answered reply ∷ answered_only rest
answered_only other = []

-- the clients whose flags are set, the first of which is that of the number after this one
abbrev pub clients_in : ℕ → List Bool → List Node
clients_in k [] = []
clients_in k (flag ∷ rest) = if flag then Client (record { 0 = suc k }) ∷ clients_in (suc k) rest else clients_in (suc k) rest
