use Rattle.oplog.proofs.Gates.{opened}
use Rattle.oplog.proofs.gate.behind_gate.Goals as goal

pub returns : goal.returns
returns c = opened c.args.bytes.now c.split_at.result.1.now c.requires c.split_at.ensures.back
