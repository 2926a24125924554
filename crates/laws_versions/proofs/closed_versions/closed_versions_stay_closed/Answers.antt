use Rattle.laws_versions.proofs.ClosedVersions.{closed_versions_stay_closed}
use Rattle.laws_versions.proofs.closed_versions.closed_versions_stay_closed.Goals as goal

pub returns : goal.returns
returns c = closed_versions_stay_closed
