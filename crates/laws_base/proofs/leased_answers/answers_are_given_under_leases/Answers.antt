use Rattle.laws_base.proofs.LeasedAnswers.{answers_are_given_under_leases}
use Rattle.laws_base.proofs.leased_answers.answers_are_given_under_leases.Goals as goal

pub returns : goal.returns
returns c = answers_are_given_under_leases
