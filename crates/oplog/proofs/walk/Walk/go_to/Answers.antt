use Rattle.std.proofs.Common.{◌<◌, length, ap, arith}
use Rattle.std.specs.Prelude.{Err}
use Rattle.oplog.proofs.AreaRefusing.{handed_on}
use Rattle.oplog.proofs.walk.Walk.go_to.Goals as goal

pub next-requires : goal.next-requires
next-requires c = (c.requires.there.0, c.loop-self.invariant.0 c.requires.there.0 c.requires.there.1)

pub loop-self-preserved : goal.loop-self-preserved
loop-self-preserved c =
    let some = c.requires.there.0 in
    let walk = c.loop-self.invariant.0 some c.requires.there.1 in
    let less : c.loop-self.self.place < length some = omega (arith, c.requires.there.2) in
    (λ all is. c.next.ensures.walk all (c.loop-self.invariant.0 all is), omega (arith, c.in_ok-next.ensures.place some walk less))

pub loop-self-smaller : goal.loop-self-smaller
loop-self-smaller c =
    let some = c.requires.there.0 in
    let walk = c.loop-self.invariant.0 some c.requires.there.1 in
    let less : c.loop-self.self.place < length some = omega (arith, c.requires.there.2) in
    omega (arith, c.in_ok-next.ensures.place some walk less)

pub returns-clause-walk : goal.returns-clause-walk
returns-clause-walk c all is = c.loop-self.invariant.0 all is

pub returns-in_err-next-clause-walk : goal.returns-in_err-next-clause-walk
returns-in_err-next-clause-walk c all is = c.next.ensures.walk all (c.loop-self.invariant.0 all is)

pub returns-in_err-next-clause-undamaged : goal.returns-in_err-next-clause-undamaged
returns-in_err-next-clause-undamaged c damaged = c.in_err-next.ensures.undamaged (ap Err (handed_on c.from_residual.result c.in_err-next.field-0.0 c.from_residual.ensures.1 damaged))
