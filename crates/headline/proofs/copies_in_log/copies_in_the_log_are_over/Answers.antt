use Rattle.headline.proofs.UngrantedCopies.{copies_in_the_log_are_over}
use Rattle.headline.proofs.copies_in_log.copies_in_the_log_are_over.Goals as goal

pub returns : goal.returns
returns c = copies_in_the_log_are_over
