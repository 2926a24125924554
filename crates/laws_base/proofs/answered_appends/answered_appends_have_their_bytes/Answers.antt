use Rattle.laws_base.proofs.AppendedBytes.{answered_appends_have_their_bytes}
use Rattle.laws_base.proofs.answered_appends.answered_appends_have_their_bytes.Goals as goal

pub returns : goal.returns
returns c = answered_appends_have_their_bytes
