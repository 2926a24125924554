use Rattle.headline.proofs.ClientsEvents.{calls_keep_worlds_whole}
use Rattle.headline.proofs.clients_events.calls_keep_worlds_whole.Goals as goal

pub returns : goal.returns
returns c = calls_keep_worlds_whole
