use Rattle.std.proofs.Common.{◌≡◌, ◌∙◌, subst}
use Rattle.replica_store.specs.Replicas.{row_at}
use Rattle.disk_store.specs.Standing.{DiskStoreView}
use Rattle.disk_store.proofs.disk_store.DiskStoreReplicaStore.row.Goals as goal

pub returns : goal.returns
returns g c = subst (λ (s : DiskStoreView). c.row.result ≡ row_at s.disk c.args.handle.0) c.self.view_is (c.row.ensures ∙ c.self.invariant.0.known.rows_are c.args.handle.0)
