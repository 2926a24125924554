use Rattle.laws_base.proofs.CountedRounds.{serials_of_rounds_are_counted}
use Rattle.laws_base.proofs.counted_serials.serials_of_rounds_are_counted.Goals as goal

pub returns : goal.returns
returns c = serials_of_rounds_are_counted
