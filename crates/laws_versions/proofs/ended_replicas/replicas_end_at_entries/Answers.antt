use Rattle.laws_versions.proofs.EndedReached.{replicas_end_at_entries}
use Rattle.laws_versions.proofs.ended_replicas.replicas_end_at_entries.Goals as goal

pub returns : goal.returns
returns c = replicas_end_at_entries
