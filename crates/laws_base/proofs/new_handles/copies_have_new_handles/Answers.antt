use Rattle.laws_base.proofs.RoundsPassed.{copies_have_new_handles}
use Rattle.laws_base.proofs.new_handles.copies_have_new_handles.Goals as goal

pub returns : goal.returns
returns c = copies_have_new_handles
