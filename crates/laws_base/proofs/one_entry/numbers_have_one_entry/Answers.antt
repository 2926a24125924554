use Rattle.laws_base.proofs.OneEntry.{numbers_have_one_entry}
use Rattle.laws_base.proofs.one_entry.numbers_have_one_entry.Goals as goal

pub returns : goal.returns
returns c = numbers_have_one_entry
