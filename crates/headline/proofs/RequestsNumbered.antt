-- From one world to the next requests stay of calls, and tries numbered.
use Rattle.headline.specs.NumberedCalls.{EventsKeepRequestsNumbered}
use Rattle.headline.proofs.RefusalsStay.{requests_stay_of_calls}
use Rattle.headline.proofs.TriesStay.{tries_stay_numbered}

pub events_keep_requests_numbered : EventsKeepRequestsNumbered
events_keep_requests_numbered config w clocks e choice ss k n beside leads run files how = (
  requests_stay_of_calls config w ss k n e choice beside leads run files,
  tries_stay_numbered config w e choice clocks k beside.chunks beside.requests_are.0 beside.requests_are.1 n how,
)
