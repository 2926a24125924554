use Rattle.std.proofs.Common.{◌≡◌, subst}
use Rattle.std.specs.Prelude.{IfOk}
use Rattle.replica_store.specs.Stores.{replica_lines}
use Rattle.disk_store.specs.Standing.{DiskStoreView, disk_said}
use Rattle.disk_store.proofs.disk_store.DiskStoreReplicaStore.list.Goals as goal

pub returns : goal.returns
returns g c = subst (λ (s : DiskStoreView). IfOk c.list.result (λ l. l ≡ replica_lines s.disk)) c.self.view_is (c.list.ensures (let was = c.self.inside in disk_said g.D.Disk.seen was.store was.before.items was.standing) c.self.invariant.0.known)
