use Rattle.laws_base.proofs.NumbersRise.{client_numbers_rise}
use Rattle.laws_base.proofs.numbers.client_numbers_rise.Goals as goal

pub returns : goal.returns
returns c = client_numbers_rise
