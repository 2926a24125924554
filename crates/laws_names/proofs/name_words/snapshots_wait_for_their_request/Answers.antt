use Rattle.laws_names.proofs.WaitingRequests.{snapshots_wait_for_their_request}
use Rattle.laws_names.proofs.name_words.snapshots_wait_for_their_request.Goals as goal

pub returns : goal.returns
returns c = snapshots_wait_for_their_request
