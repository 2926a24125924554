use Rattle.std.proofs.Common.{◌≡◌, subst}
use Rattle.replica_store.specs.Replicas.{is_disk_full}
use Rattle.disk_store.specs.Standing.{DiskStoreView, disk_said}
use Rattle.disk_store.proofs.disk_store.DiskStoreReplicaStore.is_full.Goals as goal

pub returns : goal.returns
returns g c = subst (λ (s : DiskStoreView). c.is_full.result ≡ is_disk_full c.args.slots s.disk) c.self.view_is (c.is_full.ensures (let was = c.self.inside in disk_said g.D.Disk.seen was.store was.before.items was.standing) c.self.invariant.0.known)
