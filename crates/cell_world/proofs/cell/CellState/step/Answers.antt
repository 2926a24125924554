use Rattle.std.proofs.Common.{None, sym, subst}
use Rattle.protocol.specs.World.{happens}
use Rattle.cell_world.specs.Held.{HasEffect, HeldCell}
use Rattle.cell_world.proofs.Happened.{event_at, late_call, late_message, late_tick, called, brought, ticked, fuses}
use Rattle.cell_world.proofs.cell.CellState.step.Goals as goal

pub returns-then-now-gt-MAX_MOMENT : goal.returns-then-now-gt-MAX_MOMENT
returns-then-now-gt-MAX_MOMENT g c = event_at _ _ _ _ _ c.in-Call.is (late_call c.args.self.now c.in-Call.client c.in-Call.call c.in-Call.now c.if-now-gt-MAX_MOMENT.true)

pub returns-else-now-gt-MAX_MOMENT : goal.returns-else-now-gt-MAX_MOMENT
returns-else-now-gt-MAX_MOMENT g c = event_at _ _ _ _ _ c.in-Call.is (called c.args.self.now _ c.in-Call.client c.in-Call.call c.in-Call.now _ c.if-now-gt-MAX_MOMENT.false c.takes_call.ensures)

pub returns-then-now-gt-MAX_MOMENT-2 : goal.returns-then-now-gt-MAX_MOMENT-2
returns-then-now-gt-MAX_MOMENT-2 g c = event_at _ _ _ _ _ c.in-Deliver.is (late_message c.args.self.now c.in-Deliver.number c.in-Deliver.now c.if-now-gt-MAX_MOMENT-2.true)

pub returns-else-now-gt-MAX_MOMENT-2 : goal.returns-else-now-gt-MAX_MOMENT-2
returns-else-now-gt-MAX_MOMENT-2 g c = event_at _ _ _ _ _ c.in-Deliver.is (brought c.args.self.now _ c.in-Deliver.number c.in-Deliver.now _ c.if-now-gt-MAX_MOMENT-2.false c.delivers.ensures)

pub returns-then-now-gt-MAX_MOMENT-3 : goal.returns-then-now-gt-MAX_MOMENT-3
returns-then-now-gt-MAX_MOMENT-3 g c = event_at _ _ _ _ _ c.in-Tick.is (late_tick c.args.self.now c.in-Tick.node c.in-Tick.now c.if-now-gt-MAX_MOMENT-3.true)

pub returns-else-now-gt-MAX_MOMENT-3 : goal.returns-else-now-gt-MAX_MOMENT-3
returns-else-now-gt-MAX_MOMENT-3 g c = event_at _ _ _ _ _ c.in-Tick.is (ticked c.args.self.now _ c.in-Tick.node c.in-Tick.now _ c.if-now-gt-MAX_MOMENT-3.false c.moves.ensures)

pub returns-in-Restart : goal.returns-in-Restart
returns-in-Restart g c = event_at _ _ _ _ _ c.in-Restart.is c.restart.ensures

pub returns-in-Rot : goal.returns-in-Rot
returns-in-Rot g c = event_at _ _ _ _ _ c.in-Rot.is c.rots.ensures

pub returns-in-Fuse : goal.returns-in-Fuse
returns-in-Fuse g c =
    subst (λ (new : HeldCell). HasEffect c.args.self.now (λ w choice. happens w c.args.event choice) None new) (sym c.fuses.ensures)
    (fuses c.args.self.now c.args.event (c.in-Fuse.node, c.in-Fuse.calls, c.in-Fuse.torn, c.in-Fuse.is))
