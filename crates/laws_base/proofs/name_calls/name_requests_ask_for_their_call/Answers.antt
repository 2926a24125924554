use Rattle.laws_base.proofs.Reached.{name_requests_ask_for_their_call}
use Rattle.laws_base.proofs.name_calls.name_requests_ask_for_their_call.Goals as goal

pub returns : goal.returns
returns c = name_requests_ask_for_their_call
