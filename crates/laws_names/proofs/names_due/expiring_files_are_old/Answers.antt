use Rattle.laws_names.proofs.Expiring.{expiring_files_are_old}
use Rattle.laws_names.proofs.names_due.expiring_files_are_old.Goals as goal

pub returns : goal.returns
returns c = expiring_files_are_old
