use Rattle.laws_base.proofs.CountedRounds.{serials_have_one_entry}
use Rattle.laws_base.proofs.counted_serials.serials_have_one_entry.Goals as goal

pub returns : goal.returns
returns c = serials_have_one_entry
