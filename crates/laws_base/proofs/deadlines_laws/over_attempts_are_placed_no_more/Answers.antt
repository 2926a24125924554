use Rattle.laws_base.proofs.Deadlines.{over_attempts_are_placed_no_more}
use Rattle.laws_base.proofs.deadlines_laws.over_attempts_are_placed_no_more.Goals as goal

pub returns : goal.returns
returns c = over_attempts_are_placed_no_more
