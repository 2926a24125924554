use Rattle.promises.proofs.RecordReads.{answers_reach_records, readers_miss_nothing, readers_miss_no_append, whole_chunks_miss_nothing}
use Rattle.promises.proofs.readers.readers_miss_nothing.Goals as goal

pub returns-clause-reach : goal.returns-clause-reach
returns-clause-reach c = answers_reach_records

pub returns-clause-any : goal.returns-clause-any
returns-clause-any c = readers_miss_nothing

pub returns-clause-appended : goal.returns-clause-appended
returns-clause-appended c = readers_miss_no_append

pub returns-clause-whole : goal.returns-clause-whole
returns-clause-whole c = whole_chunks_miss_nothing
