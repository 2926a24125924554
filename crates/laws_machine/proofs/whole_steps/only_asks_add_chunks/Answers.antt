use Rattle.laws_machine.proofs.UnaskedAdds.{only_asks_add_chunks}
use Rattle.laws_machine.proofs.whole_steps.only_asks_add_chunks.Goals as goal

pub returns : goal.returns
returns c = only_asks_add_chunks
