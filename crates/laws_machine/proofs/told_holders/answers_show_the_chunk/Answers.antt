use Rattle.laws_machine.proofs.ToldHolders.{answers_show_the_chunk}
use Rattle.laws_machine.proofs.told_holders.answers_show_the_chunk.Goals as goal

pub returns : goal.returns
returns c = answers_show_the_chunk
