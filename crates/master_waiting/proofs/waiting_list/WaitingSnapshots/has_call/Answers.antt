use Rattle.master_waiting.proofs.Bounds.{no_call}
use Rattle.master_waiting.proofs.waiting_list.WaitingSnapshots.has_call.Goals as goal

pub returns-then-is_stranger : goal.returns-then-is_stranger
returns-then-is_stranger c = no_call c.args.client.0 c.args.number c.args.self.now (c.is_stranger.ensures c.if-is_stranger.true)
