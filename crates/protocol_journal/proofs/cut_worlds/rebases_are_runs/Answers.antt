use Rattle.protocol_journal.proofs.CutWorlds.{rebases_are_runs as proved}
use Rattle.protocol_journal.proofs.cut_worlds.rebases_are_runs.Goals as goal

pub returns : goal.returns
returns c = proved
