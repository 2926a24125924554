-- What a list of events comes to in a cell.
use Rattle.std.specs.Prelude.{ℕ, List}
use Rattle.gfs_types.specs.declared.answer.Answer.{Answer}
use Rattle.messages.specs.declared.event.Event.{Event}
use Rattle.protocol.specs.World.{WorldState}
use Rattle.protocol.specs.Conforms.{WorldRuns}
use Rattle.cell_world.specs.Held.{HeldCell, IsHeldAs}

-- answers, with room for so many more
pub record AnswerList : Type 0 where
  pub items : List Answer
  pub room : ℕ

-- From each world that the cell stood for, the events lead to one that the new cell stands for, with these answers.
abbrev pub Runs : HeldCell → List Event → List Answer → HeldCell → Type 0
Runs old events answers new = (w : WorldState) → IsHeldAs w old → (next : WorldState) × WorldRuns w events answers next × IsHeldAs next new
