use Rattle.relaxed_file.proofs.FilesApart.{files_stay_apart, places_are_own}
use Rattle.relaxed_file.proofs.laws.files_stay_apart.Goals as goal

pub returns-clause-untouched : goal.returns-clause-untouched
returns-clause-untouched c = files_stay_apart

pub returns-clause-own : goal.returns-clause-own
returns-clause-own c = places_are_own
