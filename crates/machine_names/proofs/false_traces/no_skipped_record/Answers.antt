use Rattle.machine_names.proofs.Skipped.{no_skipped_record}
use Rattle.machine_names.proofs.false_traces.no_skipped_record.Goals as goal

pub returns : goal.returns
returns c = no_skipped_record
