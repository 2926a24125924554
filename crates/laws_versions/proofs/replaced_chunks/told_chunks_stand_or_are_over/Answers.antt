use Rattle.laws_versions.proofs.ReplacedChunks.{told_chunks_stand_or_are_over}
use Rattle.laws_versions.proofs.replaced_chunks.told_chunks_stand_or_are_over.Goals as goal

pub returns : goal.returns
returns c = told_chunks_stand_or_are_over
