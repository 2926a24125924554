use Rattle.laws_base.proofs.Deadlines.{attempts_are_placed_before_their_deadline}
use Rattle.laws_base.proofs.deadlines_laws.attempts_are_placed_before_their_deadline.Goals as goal

pub returns : goal.returns
returns c = attempts_are_placed_before_their_deadline
