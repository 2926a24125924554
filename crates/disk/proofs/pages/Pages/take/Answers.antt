use Rattle.std.proofs.Common.{◌+◌, ◌-◌, ◌≤◌, arith}
use Rattle.disk.proofs.Places.{div_le, has_all}
use Rattle.disk.proofs.pages.Pages.take.Goals as goal

pub returns-clause-taken : goal.returns-clause-taken
returns-clause-taken g c = has_all c.loop-index.self.pages c.args.at c.args.count (λ k from to.
    let last : k ≤ c.args.at + c.args.count - 1 = omega (arith, to) in
    c.loop-index.invariant.2 k (div_le c.args.at k from) (omega (arith, div_le k (c.args.at + c.args.count - 1) last, c.loop-index-test.false)) (omega (arith, to, c.requires)))
