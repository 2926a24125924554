use Rattle.laws_versions.proofs.EntriesBelow.{entries_lie_below_given_versions}
use Rattle.laws_versions.proofs.asked_versions.entries_lie_below_given_versions.Goals as goal

pub returns : goal.returns
returns c = entries_lie_below_given_versions
