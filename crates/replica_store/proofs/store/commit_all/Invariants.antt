use Rattle.std.proofs.Common.{◌≡◌, []}
use Rattle.replica_store.specs.Replicas.{disk_changed_by_all}
use Rattle.replica_store.proofs.Changes.{Follows}
use Rattle.replica_store.proofs.store.commit_all.Given as goal

-- what is left completes the changes
abbrev pub invariant-loop-change : goal.invariant-loop-change
invariant-loop-change g l =
    record {
      all : disk_changed_by_all (g.S.ReplicaStore.disk l.store) l.change-iterator.rest.items ≡ disk_changed_by_all (g.S.ReplicaStore.disk l.fn.store) l.fn.changes;
      nothing : g.S.ReplicaStore.under_way l.store ≡ [];
      part : Follows (g.S.ReplicaStore.disk l.fn.store) l.fn.changes (g.S.ReplicaStore.disk l.store) l.change-iterator.rest.items;
    }
