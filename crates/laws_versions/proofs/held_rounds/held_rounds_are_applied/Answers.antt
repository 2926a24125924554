use Rattle.laws_versions.proofs.HeldRounds.{held_rounds_are_applied}
use Rattle.laws_versions.proofs.held_rounds.held_rounds_are_applied.Goals as goal

pub returns : goal.returns
returns c = held_rounds_are_applied
