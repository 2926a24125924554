use Rattle.headline.proofs.RefusalsStay.{requests_stay_of_calls}
use Rattle.headline.proofs.numbered_calls.requests_stay_of_calls.Goals as goal

pub returns : goal.returns
returns c = requests_stay_of_calls
