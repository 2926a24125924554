use Rattle.std.proofs.Common.{refl}
use Rattle.embedded_cell.proofs.Later.{taken_there}
use Rattle.embedded_cell.proofs.taken.has.Goals as goal

pub returns-then-other-one-2 : goal.returns-then-other-one-2
returns-then-other-one-2 c = λ _. taken_there c.args.taken.now c.loop-other.other-index _ c.args.one _ c.loop-other-test.true refl c.if-other-one.true c.if-other-one-2.true
