use Rattle.headline.proofs.EventKinds.{events_are_of_one_kind}
use Rattle.headline.proofs.clients_events.events_are_of_one_kind.Goals as goal

pub returns : goal.returns
returns c = events_are_of_one_kind
