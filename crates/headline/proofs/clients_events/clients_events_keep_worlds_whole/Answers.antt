use Rattle.headline.proofs.ClientsEvents.{clients_events_keep_worlds_whole}
use Rattle.headline.proofs.clients_events.clients_events_keep_worlds_whole.Goals as goal

pub returns : goal.returns
returns c = clients_events_keep_worlds_whole
