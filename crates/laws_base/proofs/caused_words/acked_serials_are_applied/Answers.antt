use Rattle.laws_base.proofs.Forwards.{acked_serials_are_applied}
use Rattle.laws_base.proofs.caused_words.acked_serials_are_applied.Goals as goal

pub returns : goal.returns
returns c = acked_serials_are_applied
