use Rattle.data_push.proofs.Histories.{keeps_until_dropped}
use Rattle.data_push.proofs.laws.data_stay_until_taken_or_dropped.Goals as goal

pub returns : goal.returns
returns c = keeps_until_dropped
