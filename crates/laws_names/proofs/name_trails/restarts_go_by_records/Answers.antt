use Rattle.laws_names.proofs.Openings.{restarts_go_by_records}
use Rattle.laws_names.proofs.name_trails.restarts_go_by_records.Goals as goal

pub returns : goal.returns
returns c = restarts_go_by_records
