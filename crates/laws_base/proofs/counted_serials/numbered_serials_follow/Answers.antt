use Rattle.laws_base.proofs.CountedRounds.{numbered_serials_follow}
use Rattle.laws_base.proofs.counted_serials.numbered_serials_follow.Goals as goal

pub returns : goal.returns
returns c = numbered_serials_follow
