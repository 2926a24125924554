use Rattle.std.proofs.Common.{arith}
use Rattle.cell_run.proofs.cell.Cell.ended.Goals as goal

pub returns-clause-ended : goal.returns-clause-ended
returns-clause-ended g c =
    let made = c.self.invariant.0 in
    record {
      made = omega (arith, made.waiting);
      least = made.least;
      next = made.next;
      base = (c.self.invariant.2, c.self.invariant.3);
      nothing = made.nothing_is;
      fresh = λ n past. (made.fresh n past).0;
    }
