use Rattle.data_push.proofs.Histories.{keeps_the_newest}
use Rattle.data_push.proofs.laws.the_newest_data_stay.Goals as goal

pub returns : goal.returns
returns c = keeps_the_newest
