use Rattle.laws_versions.proofs.ExtendLaws.{extends_follow_their_grants}
use Rattle.laws_versions.proofs.extended_leases.extends_follow_their_grants.Goals as goal

pub returns : goal.returns
returns c = extends_follow_their_grants
