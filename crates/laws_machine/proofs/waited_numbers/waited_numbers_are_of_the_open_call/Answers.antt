use Rattle.laws_machine.proofs.WaitedNumbers.{waited_numbers_are_of_the_open_call}
use Rattle.laws_machine.proofs.waited_numbers.waited_numbers_are_of_the_open_call.Goals as goal

pub returns : goal.returns
returns c = waited_numbers_are_of_the_open_call
