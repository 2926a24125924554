use Rattle.headline.proofs.ShownFiles.{whole_worlds_are_explained}
use Rattle.headline.proofs.explained.whole_worlds_are_explained.Goals as goal

pub returns : goal.returns
returns c = whole_worlds_are_explained
