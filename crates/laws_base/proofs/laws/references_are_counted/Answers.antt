use Rattle.laws_base.proofs.NamesLogged.{references_are_counted}
use Rattle.laws_base.proofs.laws.references_are_counted.Goals as goal

pub returns : goal.returns
returns c = references_are_counted
