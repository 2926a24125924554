use Rattle.headline.proofs.LongRefusals.{refusals_for_length_are_so}
use Rattle.headline.proofs.long_refusals.refusals_for_length_are_so.Goals as goal

pub returns : goal.returns
returns c = refusals_for_length_are_so
