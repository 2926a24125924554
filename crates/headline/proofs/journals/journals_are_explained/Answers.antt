use Rattle.headline.proofs.JournalsExplained.{journals_are_explained}
use Rattle.headline.proofs.journals.journals_are_explained.Goals as goal

pub returns : goal.returns
returns c = journals_are_explained
