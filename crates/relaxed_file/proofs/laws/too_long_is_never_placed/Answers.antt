use Rattle.relaxed_file.proofs.EntriesAsked.{too_long_is_never_placed}
use Rattle.relaxed_file.proofs.laws.too_long_is_never_placed.Goals as goal

pub returns : goal.returns
returns c = too_long_is_never_placed
