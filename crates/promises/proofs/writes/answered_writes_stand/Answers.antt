use Rattle.promises.proofs.WrittenParts.{answered_writes_stand}
use Rattle.promises.proofs.writes.answered_writes_stand.Goals as goal

pub returns : goal.returns
returns c = answered_writes_stand
