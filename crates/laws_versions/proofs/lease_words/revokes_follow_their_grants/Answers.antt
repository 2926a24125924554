use Rattle.laws_versions.proofs.LeaseLaws.{revokes_follow_their_grants}
use Rattle.laws_versions.proofs.lease_words.revokes_follow_their_grants.Goals as goal

pub returns : goal.returns
returns c = revokes_follow_their_grants
