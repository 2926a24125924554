use Rattle.protocol_journal.proofs.CutWorlds.{cut_worlds_go_alike as proved}
use Rattle.protocol_journal.proofs.cut_worlds.cut_worlds_go_alike.Goals as goal

pub returns : goal.returns
returns c = proved
