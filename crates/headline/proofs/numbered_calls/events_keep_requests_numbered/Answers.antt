use Rattle.headline.proofs.RequestsNumbered.{events_keep_requests_numbered}
use Rattle.headline.proofs.numbered_calls.events_keep_requests_numbered.Goals as goal

pub returns : goal.returns
returns c = events_keep_requests_numbered
