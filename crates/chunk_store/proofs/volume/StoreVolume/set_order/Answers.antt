use Rattle.std.proofs.Common.{refl}
use Rattle.replica_store.specs.declared.change.StoreChange.TheVariants.{SetOrder}
use Rattle.replica_store.specs.Replicas.{disk_changed}
use Rattle.store_changes.specs.Faults.{fault_of}
use Rattle.store_changes.proofs.Answered.{disk_never, not_refused}
use Rattle.chunk_store.proofs.StillOpen.{still_open}
use Rattle.chunk_store.proofs.Ready.{ready_after}
use Rattle.chunk_store.proofs.volume.StoreVolume.set_order.Goals as goal

pub returns-in_err-set_order-clause-any_moment : goal.returns-in_err-set_order-clause-any_moment
returns-in_err-set_order-clause-any_moment g c d says = c.set_order.ensures.any_moment c.args.self.now.index d says

pub returns-clause-ok : goal.returns-clause-ok
returns-clause-ok g c d is =
    let store = c.args.self.now in
    still_open g.D.Disk.seen g.D.Disk.may_leave store d is c.set_order.new.disk store.index c.args.order (disk_changed d (SetOrder c.args.order)) c.set_order.ensures.size refl c.in_ok-set_order.ensures.rest (c.in_ok-set_order.ensures.made store.index d is.says)

pub returns-clause-any_moment : goal.returns-clause-any_moment
returns-clause-any_moment g c d says = c.set_order.ensures.any_moment c.args.self.now.index d says

pub returns-in_err-set_order-clause-unrefused : goal.returns-in_err-set_order-clause-unrefused
returns-in_err-set_order-clause-unrefused g c e = not_refused c.from_residual.result (fault_of c.in_err-set_order.field-0.0) c.from_residual.ensures.1 (disk_never c.in_err-set_order.field-0.0) e

pub returns-clause-ready : goal.returns-clause-ready
returns-clause-ready g c = (let store = c.args.self.now in ready_after g.D.Disk.seen g.D.Disk.may_leave store c.requires.ready c.set_order.new.disk store.index c.args.order c.set_order.ensures.size c.in_ok-set_order.ensures.rest)

pub returns-in_err-set_order-clause-kept : goal.returns-in_err-set_order-clause-kept
returns-in_err-set_order-clause-kept g c e = absurd (not_refused c.from_residual.result (fault_of c.in_err-set_order.field-0.0) c.from_residual.ensures.1 (disk_never c.in_err-set_order.field-0.0) e)
