use Rattle.laws_versions.proofs.AwaitedChunks.{awaited_chunks_are_not_tried}
use Rattle.laws_versions.proofs.awaited_chunks.awaited_chunks_are_not_tried.Goals as goal

pub returns : goal.returns
returns c = awaited_chunks_are_not_tried
