use Rattle.relaxed_file.proofs.AskedFor.{entries_were_asked_for}
use Rattle.relaxed_file.proofs.laws.entries_were_asked_for.Goals as goal

pub returns : goal.returns
returns c = entries_were_asked_for
