use Rattle.laws_base.proofs.CopiesBegin.{copies_begin_with_their_source}
use Rattle.laws_base.proofs.rising_rounds.copies_begin_with_their_source.Goals as goal

pub returns : goal.returns
returns c = copies_begin_with_their_source
