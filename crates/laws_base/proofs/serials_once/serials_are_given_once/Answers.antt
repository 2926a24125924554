use Rattle.laws_base.proofs.SerialsOnce.{serials_are_given_once}
use Rattle.laws_base.proofs.serials_once.serials_are_given_once.Goals as goal

pub returns : goal.returns
returns c = serials_are_given_once
