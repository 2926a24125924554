use Rattle.laws_machine.proofs.WholeWorlds.{new_worlds_are_whole}
use Rattle.laws_machine.proofs.whole_worlds.new_worlds_are_whole.Goals as goal

pub returns : goal.returns
returns c = new_worlds_are_whole
