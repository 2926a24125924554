use Rattle.laws_names.proofs.KeptAnswersReached.{waiting_snapshots_were_asked_for}
use Rattle.laws_names.proofs.kept_answers.waiting_snapshots_were_asked_for.Goals as goal

pub returns : goal.returns
returns c = waiting_snapshots_were_asked_for
