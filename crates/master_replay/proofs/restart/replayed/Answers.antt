use Rattle.std.proofs.Common.{◌≡◌, Err, ap}
use Rattle.master_state.specs.declared.fault.ReplayFault.TheVariants.{Damaged}
use Rattle.master_replay.proofs.Replays.{lawful}
use Rattle.master_replay.proofs.restart.replayed.Goals as goal

pub returns-in-Err-clause-damaged : goal.returns-in-Err-clause-damaged
returns-in-Err-clause-damaged g c =
    let r = c.in_ok-replay_log.ensures in
    λ e.
    let same : c.in-Err.fault ≡ Damaged = cc in
    lawful (g.L.OperationLog.disk c.args.log.now) c.in_ok-state.state _ _ c.in_ok-state.ensures r.state r.follows (c.in-Err.ensures.damaged (ap Err same))

pub returns-in-Ok-clause-lawful : goal.returns-in-Ok-clause-lawful
returns-in-Ok-clause-lawful g c =
    let r = c.in_ok-replay_log.ensures in
    lawful (g.L.OperationLog.disk c.args.log.now) c.in_ok-state.state _ _ c.in_ok-state.ensures r.state r.follows c.in-Ok.ensures.unowned
