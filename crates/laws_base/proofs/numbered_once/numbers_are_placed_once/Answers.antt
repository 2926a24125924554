use Rattle.laws_base.proofs.NumberedOnce.{numbers_are_placed_once}
use Rattle.laws_base.proofs.numbered_once.numbers_are_placed_once.Goals as goal

pub returns : goal.returns
returns c = numbers_are_placed_once
