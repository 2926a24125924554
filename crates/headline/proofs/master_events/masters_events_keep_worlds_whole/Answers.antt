use Rattle.headline.proofs.MasterEvents.{masters_events_keep_worlds_whole}
use Rattle.headline.proofs.master_events.masters_events_keep_worlds_whole.Goals as goal

pub returns : goal.returns
returns c = masters_events_keep_worlds_whole
