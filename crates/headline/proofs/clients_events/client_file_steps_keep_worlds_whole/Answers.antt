use Rattle.headline.proofs.ClientsFileSteps.{client_file_steps_keep_worlds_whole}
use Rattle.headline.proofs.clients_events.client_file_steps_keep_worlds_whole.Goals as goal

pub returns : goal.returns
returns c = client_file_steps_keep_worlds_whole
