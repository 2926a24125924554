-- Events one after another, and what is printed of them: a line for each answer, when it comes.
use Rattle.std.specs.Prelude.{◌≡◌, ◌≤◌, ℕ, zero, suc, ◌+◌, ◌*◌, min, Bool, true, false, IsTrue, List, [], ◌∷◌, ◌++◌, Option, Some, None, option_map}
use Rattle.std.specs.List.{All, flat_map}
use Rattle.std.specs.Io.KnownBytes.{Appends}
use Rattle.gfs_types.specs.declared.answer.Answer.{Answer}
use Rattle.gfs_types.specs.declared.ids.Node.{Node}
use Rattle.gfs_types.specs.declared.ids.Node.TheVariants as node
use Rattle.messages.specs.declared.event.Event.{Event}
use Rattle.messages.specs.declared.event.Event.TheVariants as event
use Rattle.script.specs.Answers.{answer_line}
use Rattle.script.specs.Reading.{line_feed}
use Rattle.cell_simulator.specs.Cells.{Meaning}

-- an event that happened at a node, and its answer
pub record Step : Type 0 where
  pub node : Node
  pub event : Event
  pub answer : Option Answer

-- a cell and the simulator's clock
pub record Simulated (C : Type 0) : Type 0 where
  pub cell : C
  pub clock : ℕ

-- the node that an event is at
abbrev pub node_of : {C : Type 0} → Meaning C → C → Event → Option Node
node_of m cell (event.Call client c now) = Some (node.Client client)
node_of m cell (event.Deliver number now) = option_map (λ message. message.receiver) (m.message cell number)
node_of m cell (event.Tick n now) = Some n
node_of m cell (event.Restart n now) = Some n
node_of m cell (event.Rot server handle place byte) = Some (node.Server server)
node_of m cell (event.Fuse n count torn) = Some n

-- the moment that an event is given; one that is given none happens at the clock's
abbrev pub moment_of : ℕ → Event → ℕ
moment_of clock (event.Call client c now) = now.0
moment_of clock (event.Deliver number now) = now.0
moment_of clock (event.Tick n now) = now.0
moment_of clock (event.Restart n now) = now.0
moment_of clock (event.Rot server handle place byte) = clock
moment_of clock (event.Fuse n count torn) = clock

abbrev pub is_delivery : Event → Bool
is_delivery (event.Call client c now) = false
is_delivery (event.Deliver number now) = true
is_delivery (event.Tick n now) = false
is_delivery (event.Restart n now) = false
is_delivery (event.Rot server handle place byte) = false
is_delivery (event.Fuse n count torn) = false

-- what rounds of ticks consist of
abbrev pub is_of_round : Event → Bool
is_of_round (event.Call client c now) = false
is_of_round (event.Deliver number now) = true
is_of_round (event.Tick n now) = true
is_of_round (event.Restart n now) = false
is_of_round (event.Rot server handle place byte) = false
is_of_round (event.Fuse n count torn) = false

-- all messages were dropped so many times
abbrev pub DropsTimes : {C : Type 0} → Meaning C → ℕ → C → C → Type 0
DropsTimes m zero old new = new ≡ old
DropsTimes {C} m (suc times) old new = (w : C) × m.drops old w × DropsTimes m times w new

-- The cell took no step. It may have dropped all messages, and again those that were sent until then.
pub record Stays {C : Type 0} (m : Meaning C) (old new : C) : Type 0 where
  pub times : ℕ
  pub drops : DropsTimes m times old new

-- Steps lead from one cell to another. Around them it may drop all messages.
abbrev pub Lead : {C : Type 0} → Meaning C → C → List Step → C → Type 0
Lead m old [] new = Stays m old new
Lead {C} m old (s ∷ rest) new = (v : C) × Stays m old v × (w : C) × (node_of m v s.event ≡ Some s.node) × m.steps v s.event s.answer w × Lead m w rest new

-- the moments never fall, from the one clock to the other
abbrev pub Rise : ℕ → List Step → ℕ → Type 0
Rise from [] to = from ≤ to
Rise from (s ∷ rest) to = (from ≤ moment_of from s.event) × Rise (moment_of from s.event) rest to

abbrev pub with_feed : List ℕ → List ℕ
with_feed line = line ++ line_feed ∷ []

-- what is printed of an answer at a node
abbrev pub line_at : Node → Option Answer → List ℕ
line_at (node.Client client) (Some answer) = with_feed (answer_line client.0 answer)
line_at (node.Client client) None = []
line_at node.Master answer = []
line_at (node.Server server) answer = []

abbrev pub line_of_step : Step → List ℕ
line_of_step s = line_at s.node s.answer

abbrev pub lines_of : List Step → List ℕ
lines_of steps = flat_map line_of_step steps

-- each event passes the test
abbrev pub Only : (Event → Bool) → List Step → Type 0
Only test steps = All (λ s. IsTrue (test s.event)) steps

-- just this event
abbrev pub Just : Event → List Step → Type 0
Just e steps = (s : Step) × (s.event ≡ e) × (steps ≡ s ∷ [])

-- this event, and then such as pass the test
abbrev pub First : Event → (Event → Bool) → List Step → Type 0
First e test steps = (s : Step) × (rest : List Step) × (s.event ≡ e) × (steps ≡ s ∷ rest) × Only test rest

-- Such steps led from one cell to the other, and their answers were printed.
pub record Goes {C : Type 0} (m : Meaning C) (old new : Simulated C) (Are : List Step → Type 0) (before after : Option (List ℕ)) : Type 0 where
  pub steps : List Step
  pub leads : Lead m old.cell steps new.cell
  pub rises : Rise old.clock steps new.clock
  pub are : Are steps
  pub printed : Appends before after (lines_of steps)

-- the clock after so many milliseconds, which stops at the greatest number
abbrev pub later : ℕ → ℕ → ℕ
later clock count = min (clock + count) 18446744073709551615

-- the clock after so many rounds of ticks
abbrev pub after_rounds : ℕ → ℕ → ℕ
after_rounds clock rounds = later clock (100 * rounds)

-- the rounds of ticks that a line may need
abbrev pub most_rounds : ℕ
most_rounds = 1000000
