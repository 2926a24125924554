use Rattle.laws_base.proofs.Lengths.{replicas_lie_within_the_chunk}
use Rattle.laws_base.proofs.replicas.replicas_lie_within_the_chunk.Goals as goal

pub returns : goal.returns
returns c = replicas_lie_within_the_chunk
