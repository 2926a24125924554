-- What a node's lock guards.
use Rattle.std.specs.Prelude.{◌≡◌, ℕ, Bool, true, false, List, [], Option, Some, None, Result, Ok, Err}
use mathlib.Core.List.{IsPrefix}
use Rattle.gfs_types.specs.declared.answer.Answer.{Answer}
use Rattle.gfs_types.specs.declared.call.Call.{Call}
use Rattle.gfs_types.specs.declared.ids.Node.{Node}
use Rattle.gfs_types.specs.declared.refusal.Refusal.{Refusal}
use Rattle.gfs_types.specs.declared.refusal.Refusal.TheVariants.{ClockBroken}
use Rattle.messages.specs.declared.message.Message.{Message}
use Rattle.messages.specs.declared.event.StepOut.{StepOut}
use Rattle.messages.specs.declared.event.NodeInput.TheVariants as input
use Rattle.protocol.specs.Choice.{Choice}
use Rattle.protocol.specs.declared.seen.Seen.{Seen}
use Rattle.protocol.specs.World.{new_world, numbered_from_1}
use Rattle.protocol_journal.specs.Journal.{StepCause, Calls, Takes, Restarts, Entry, NodeState, node_in, node_step, sent_after, LeadsTo}
use Rattle.cell_journal.specs.Log.{Listed}
use Rattle.cell_journal.specs.Clocks.{are_clocks_kept}
use Rattle.cell_journal.specs.declared.view.View.{View}
use Rattle.cell_journal.specs.WholeHistories.{all_seen, all_steps}
use Rattle.cell_journal.specs.Writers.{GoesOn, IsSeen}
use Rattle.cell_seats.specs.declared.mailboxes.Input.{Input}
use Rattle.cell_seats.specs.declared.mailboxes.Input.TheVariants.{Deliver, Tick, Restart}

-- a node, and what its writer knows
pub record SlotState : Type 0 where
  pub node : Node
  pub view : View

abbrev pub slot_state : Node → View → SlotState
slot_state node view = record { node = node; view = view }

-- The step of a node gave this and was seen so, for some choice; the code's node stands for the state to which it led.
pub record StepsSo (s : NodeState) (moment : ℕ) (cause : StepCause) (out : StepOut) (seen : List Seen) (Stands : NodeState → Type 0) : Type 0 where
  pub choice : Choice
  pub gives : (node_step s moment cause choice).out ≡ out
  pub sees : (node_step s moment cause choice).seen ≡ seen
  pub stands : Stands (node_step s moment cause choice).state

-- all steps of the node, as its writer knows them, led to a state for which it stands
pub record IsLedTo (v : View) (n : Node) (Stands : NodeState → Type 0) : Type 0 where
  pub state : NodeState
  pub leads : LeadsTo (node_in (new_world v.of.config v.of.servers v.of.clients) n) (all_steps v n) (Some state)
  pub stands : Stands state

abbrev pub number_in : Input → Option ℕ
number_in (Deliver number) = Some number
number_in Tick = None
number_in Restart = None

-- what a step is taken on, given its message
abbrev pub IsTakenOn : Input → Option Message → StepCause → Type 0
IsTakenOn Restart message cause = cause ≡ Restarts
IsTakenOn (Deliver number) (Some m) cause = cause ≡ Takes (input.Deliver m)
IsTakenOn (Deliver number) None cause = cause ≡ Takes input.Tick
IsTakenOn Tick (Some m) cause = cause ≡ Takes (input.Deliver m)
IsTakenOn Tick None cause = cause ≡ Takes input.Tick

-- an input names what a step is taken on: a message by its number among those that were sent
abbrev pub IsInputOf : List Message → Input → StepCause → Type 0
IsInputOf sent (Deliver number) (Takes (input.Deliver m)) = numbered_from_1 sent number ≡ Some m
IsInputOf sent Tick (Takes input.Tick) = Unit {0}
IsInputOf sent Restart Restarts = Unit {0}
IsInputOf sent other cause = ⊥

-- a step on a call is given a copy of it
abbrev pub IsCopyOf : StepCause → Option Call → Type 0
IsCopyOf (Calls call) (Some copy) = copy ≡ call
IsCopyOf (Calls call) None = ⊥
IsCopyOf other copy = Unit {0}

-- a step's answer is told where clocks were kept
abbrev pub told_where : Bool → Option Answer → Result (Option Answer) Refusal
told_where true answer = Ok answer
told_where false answer = Err ClockBroken

-- The node took one step more, on this; it is the last of a lawful journal, which was seen whole. What is told of its answer is the step's answer in the journal, where clocks were kept up to it.
pub record StepTaken (n : Node) (v w : View) (cause : StepCause) (answer : Result (Option Answer) Refusal) (beginning : Listed Entry) (count : ℕ) : Type 0 where
  pub entry : Entry
  pub node_is : entry.node ≡ n
  pub goes : GoesOn v w entry
  pub cause_is : entry.cause ≡ cause
  pub answer_is : answer ≡ told_where (are_clocks_kept w.of (all_seen w)) entry.out.answer
  pub seen : IsSeen w beginning count

-- the same, on what an input names
pub record ActsOn (n : Node) (v w : View) (i : Input) (answer : Result (Option Answer) Refusal) (beginning : Listed Entry) (count : ℕ) : Type 0 where
  pub cause : StepCause
  pub read : List Entry
  pub before : IsPrefix read w.seen
  pub names : IsInputOf (sent_after [] read) i cause
  pub taken : StepTaken n v w cause answer beginning count

-- the node's old steps and one more, on what the input names
pub record Acts (n : Node) (v w : View) (i : Input) : Type 0 where
  pub entry : Entry
  pub node_is : entry.node ≡ n
  pub read : List Entry
  pub before : IsPrefix read w.seen
  pub names : IsInputOf (sent_after [] read) i entry.cause
  pub goes : GoesOn v w entry
