use Rattle.laws_machine.proofs.ShownChunks.{files_are_seen}
use Rattle.headline.proofs.explained.files_are_seen.Goals as goal

pub returns : goal.returns
returns c = files_are_seen
