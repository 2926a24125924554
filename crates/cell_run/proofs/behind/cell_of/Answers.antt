use Rattle.std.proofs.Common.{arith}
use Rattle.cell_run.proofs.behind.cell_of.Goals as goal

pub invariant_of-result : goal.invariant_of-result
invariant_of-result c = (c.requires.made, c.requires.locks, omega (arith, c.base_of.ensures.one), c.base_of.ensures.behind c.args.places.registry.writer.me.0.of c.requires.behind.0 c.requires.behind.1)
