use Rattle.std.proofs.Common.{◌≡◌, subst}
use Rattle.std.specs.FinMap as map
use Rattle.disk_store.specs.Standing.{DiskStoreView, disk_said}
use Rattle.disk_store.proofs.disk_store.DiskStoreReplicaStore.len.Goals as goal

pub returns : goal.returns
returns g c = subst (λ (s : DiskStoreView). c.len.result ≡ map.len s.disk.replicas) c.self.view_is (c.len.ensures (let was = c.self.inside in disk_said g.D.Disk.seen was.store was.before.items was.standing) c.self.invariant.0.known)
