use Rattle.laws_versions.proofs.AwaitedChunks.{waiting_snapshots_are_alone}
use Rattle.laws_versions.proofs.awaited_chunks.waiting_snapshots_are_alone.Goals as goal

pub returns : goal.returns
returns c = waiting_snapshots_are_alone
