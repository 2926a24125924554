use Rattle.laws_machine.proofs.WholeWorlds.{servers_events_keep_worlds_whole}
use Rattle.laws_machine.proofs.whole_worlds.servers_events_keep_worlds_whole.Goals as goal

pub returns : goal.returns
returns c = servers_events_keep_worlds_whole
