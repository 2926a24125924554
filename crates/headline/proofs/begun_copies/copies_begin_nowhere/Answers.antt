use Rattle.headline.proofs.BegunCopies.{copies_begin_nowhere}
use Rattle.headline.proofs.begun_copies.copies_begin_nowhere.Goals as goal

pub returns : goal.returns
returns c = copies_begin_nowhere
