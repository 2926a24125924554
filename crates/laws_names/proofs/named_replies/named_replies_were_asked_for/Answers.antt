use Rattle.laws_names.proofs.NamedRepliesReached.{named_replies_were_asked_for}
use Rattle.laws_names.proofs.named_replies.named_replies_were_asked_for.Goals as goal

pub returns : goal.returns
returns c = named_replies_were_asked_for
