use Rattle.relaxed_file.proofs.FilesApart.{reads_skip_nothing}
use Rattle.relaxed_file.proofs.laws.reads_skip_nothing.Goals as goal

pub returns : goal.returns
returns c = reads_skip_nothing
