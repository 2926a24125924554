use Rattle.headline.proofs.Induction.{answers_are_a_run}
use Rattle.headline.proofs.runs.answers_are_a_run.Goals as goal

pub returns : goal.returns
returns c = answers_are_a_run
