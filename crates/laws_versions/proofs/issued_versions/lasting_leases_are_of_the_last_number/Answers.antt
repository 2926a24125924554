use Rattle.laws_versions.proofs.IssuedVersions.{lasting_leases_are_of_the_last_number}
use Rattle.laws_versions.proofs.issued_versions.lasting_leases_are_of_the_last_number.Goals as goal

pub returns : goal.returns
returns c = lasting_leases_are_of_the_last_number
