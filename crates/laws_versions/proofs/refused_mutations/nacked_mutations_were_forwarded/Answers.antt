use Rattle.laws_versions.proofs.NackedWords.{nacked_mutations_were_forwarded}
use Rattle.laws_versions.proofs.refused_mutations.nacked_mutations_were_forwarded.Goals as goal

pub returns : goal.returns
returns c = nacked_mutations_were_forwarded
