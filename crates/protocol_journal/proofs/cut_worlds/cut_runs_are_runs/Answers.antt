use Rattle.protocol_journal.proofs.CutWorlds.{cut_runs_are_runs as proved}
use Rattle.protocol_journal.proofs.cut_worlds.cut_runs_are_runs.Goals as goal

pub returns : goal.returns
returns c = proved
