use Rattle.headline.proofs.ClientsEvents.{name_steps_keep_worlds_whole}
use Rattle.headline.proofs.clients_events.name_steps_keep_worlds_whole.Goals as goal

pub returns : goal.returns
returns c = name_steps_keep_worlds_whole
