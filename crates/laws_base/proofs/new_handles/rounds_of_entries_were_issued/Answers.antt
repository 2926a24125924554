use Rattle.laws_base.proofs.RoundsPassed.{rounds_of_entries_were_issued}
use Rattle.laws_base.proofs.new_handles.rounds_of_entries_were_issued.Goals as goal

pub returns : goal.returns
returns c = rounds_of_entries_were_issued
