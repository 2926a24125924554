use Rattle.relaxed_file.proofs.EntriesAsked.{pads_are_needed}
use Rattle.relaxed_file.proofs.laws.pads_are_needed.Goals as goal

pub returns : goal.returns
returns c = pads_are_needed
