use Rattle.laws_base.proofs.AnsweredAttempts.{answered_attempts_are_placed_no_more}
use Rattle.laws_base.proofs.answered_attempts.answered_attempts_are_placed_no_more.Goals as goal

pub returns : goal.returns
returns c = answered_attempts_are_placed_no_more
