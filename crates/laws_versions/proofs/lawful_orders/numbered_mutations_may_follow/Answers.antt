use Rattle.laws_versions.proofs.LawfulPlaces.{numbered_mutations_may_follow}
use Rattle.laws_versions.proofs.lawful_orders.numbered_mutations_may_follow.Goals as goal

pub returns : goal.returns
returns c = numbered_mutations_may_follow
