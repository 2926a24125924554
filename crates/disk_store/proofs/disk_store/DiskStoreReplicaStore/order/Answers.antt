use Rattle.std.proofs.Common.{◌≡◌, ap, subst}
use Rattle.gfs_types.specs.declared.ids.OrderNo.{OrderNo}
use Rattle.disk_store.specs.Standing.{DiskStoreView}
use Rattle.disk_store.proofs.disk_store.DiskStoreReplicaStore.order.Goals as goal

pub returns-clause-epoch : goal.returns-clause-epoch
returns-clause-epoch g c = subst (λ (s : DiskStoreView). c.self.inside.known.order.epoch ≡ s.disk.epoch) c.self.view_is (ap (λ (o : OrderNo). o.epoch) c.self.invariant.0.known.order_is)

pub returns-clause-count : goal.returns-clause-count
returns-clause-count g c = subst (λ (s : DiskStoreView). c.self.inside.known.order.count ≡ s.disk.count) c.self.view_is (ap (λ (o : OrderNo). o.count) c.self.invariant.0.known.order_is)
