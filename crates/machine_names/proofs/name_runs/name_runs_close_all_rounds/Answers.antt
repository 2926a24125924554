use Rattle.machine_names.proofs.Runs.{name_runs_have_no_chunks, name_runs_close_all_rounds}
use Rattle.machine_names.proofs.name_runs.name_runs_close_all_rounds.Goals as goal

pub returns-clause-chunks : goal.returns-clause-chunks
returns-clause-chunks c = name_runs_have_no_chunks

pub returns-clause-rounds : goal.returns-clause-rounds
returns-clause-rounds c = name_runs_close_all_rounds
