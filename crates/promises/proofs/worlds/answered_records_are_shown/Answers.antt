use Rattle.promises.proofs.KeptPromises.{answered_records_are_shown}
use Rattle.promises.proofs.worlds.answered_records_are_shown.Goals as goal

pub returns : goal.returns
returns c = answered_records_are_shown
