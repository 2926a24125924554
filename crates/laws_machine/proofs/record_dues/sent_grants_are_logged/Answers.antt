use Rattle.laws_machine.proofs.SentGrants.{sent_grants_are_logged}
use Rattle.laws_machine.proofs.record_dues.sent_grants_are_logged.Goals as goal

pub returns : goal.returns
returns c = sent_grants_are_logged
