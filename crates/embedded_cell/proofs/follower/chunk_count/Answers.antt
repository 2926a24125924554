use Rattle.std.proofs.Common.{arith}
use Rattle.embedded_cell.proofs.follower.chunk_count.Goals as goal

pub returns-clause-all : goal.returns-clause-all
returns-clause-all c = omega arith

pub returns-clause-within : goal.returns-clause-within
returns-clause-within c = λ k less. omega (arith, less)
