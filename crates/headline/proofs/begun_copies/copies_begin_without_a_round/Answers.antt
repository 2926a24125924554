use Rattle.headline.proofs.BegunCopies.{copies_begin_without_a_round}
use Rattle.headline.proofs.begun_copies.copies_begin_without_a_round.Goals as goal

pub returns : goal.returns
returns c = copies_begin_without_a_round
