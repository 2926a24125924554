use Rattle.laws_names.proofs.FollowedClientsCalls.{name_calls_are_begun, name_calls_are_followed}
use Rattle.laws_names.proofs.followed_clients.name_calls_are_followed.Goals as goal

pub returns-clause-begun : goal.returns-clause-begun
returns-clause-begun c = name_calls_are_begun

pub returns-clause-followed : goal.returns-clause-followed
returns-clause-followed c = name_calls_are_followed
