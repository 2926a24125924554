use Rattle.laws_base.proofs.NumbersRise.{later_requests_have_later_numbers}
use Rattle.laws_base.proofs.numbers.later_requests_have_later_numbers.Goals as goal

pub returns : goal.returns
returns c = later_requests_have_later_numbers
