use Rattle.laws_base.proofs.ToldFull.{full_chunks_are_told_as_full}
use Rattle.laws_base.proofs.told_full_chunks.full_chunks_are_told_as_full.Goals as goal

pub returns : goal.returns
returns c = full_chunks_are_told_as_full
