use Rattle.laws_machine.proofs.Copies.{copies_take_their_place}
use Rattle.laws_machine.proofs.chunk_records.copies_take_their_place.Goals as goal

pub returns : goal.returns
returns c = copies_take_their_place
