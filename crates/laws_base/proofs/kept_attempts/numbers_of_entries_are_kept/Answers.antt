use Rattle.laws_base.proofs.KeptAttempts.{numbers_of_entries_are_kept}
use Rattle.laws_base.proofs.kept_attempts.numbers_of_entries_are_kept.Goals as goal

pub returns : goal.returns
returns c = numbers_of_entries_are_kept
