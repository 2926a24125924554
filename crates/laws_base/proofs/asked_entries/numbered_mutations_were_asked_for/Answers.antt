use Rattle.laws_base.proofs.Stemming.{numbered_mutations_were_asked_for}
use Rattle.laws_base.proofs.asked_entries.numbered_mutations_were_asked_for.Goals as goal

pub returns : goal.returns
returns c = numbered_mutations_were_asked_for
