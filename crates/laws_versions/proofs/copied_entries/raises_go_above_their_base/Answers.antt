use Rattle.laws_versions.proofs.CopiedEntries.{raises_go_above_their_base}
use Rattle.laws_versions.proofs.copied_entries.raises_go_above_their_base.Goals as goal

pub returns : goal.returns
returns c = raises_go_above_their_base
