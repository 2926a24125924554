use Rattle.headline.proofs.ClientsEvents.{idle_steps_keep_worlds_whole}
use Rattle.headline.proofs.clients_events.idle_steps_keep_worlds_whole.Goals as goal

pub returns : goal.returns
returns c = idle_steps_keep_worlds_whole
