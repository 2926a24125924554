use Rattle.relaxed_file.proofs.EntriesAsked.{appends_leave_no_gap}
use Rattle.relaxed_file.proofs.laws.appends_leave_no_gap.Goals as goal

pub returns : goal.returns
returns c = appends_leave_no_gap
