use Rattle.relaxed_file.proofs.Notes.{notes_never_fall, looks_name_no_earlier_rounds}
use Rattle.relaxed_file.proofs.laws.notes_never_fall.Goals as goal

pub returns-clause-notes : goal.returns-clause-notes
returns-clause-notes c = notes_never_fall

pub returns-clause-reads : goal.returns-clause-reads
returns-clause-reads c = looks_name_no_earlier_rounds
