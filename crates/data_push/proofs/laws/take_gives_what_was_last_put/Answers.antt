use Rattle.data_push.proofs.Histories.{gives_last_put}
use Rattle.data_push.proofs.laws.take_gives_what_was_last_put.Goals as goal

pub returns : goal.returns
returns c = gives_last_put
