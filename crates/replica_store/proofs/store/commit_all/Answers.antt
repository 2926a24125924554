use Rattle.std.proofs.Common.{rules, ◌≡◌, ◌∷◌, List, subst, sym}
use Rattle.replica_store.specs.declared.change.StoreChange.{StoreChange}
use Rattle.replica_store.specs.Replicas.{ServerDisk, disk_changed, disk_changed_by_all}
use Rattle.replica_store.specs.Stores.{MadePart}
use Rattle.replica_store.proofs.Changes.{one_made}
use Rattle.replica_store.proofs.store.commit_all.Goals as goal

pub loop-change-preserved : goal.loop-change-preserved
loop-change-preserved g c =
    let x : StoreChange = c.in-Some.change in
    let rest : List StoreChange = c.next.new.self.rest.items in
    let d : ServerDisk = g.S.ReplicaStore.disk c.loop-change.store in
    let made : g.S.ReplicaStore.disk c.commit.new.self ≡ disk_changed d x = c.in_ok-commit.ensures.disk in
    let steps : c.loop-change.change-iterator.rest.items ≡ x ∷ rest = search rules in
    record {
      all = rw made (subst (λ r. disk_changed_by_all d r ≡ disk_changed_by_all (g.S.ReplicaStore.disk c.args.store.now) c.args.changes) steps c.loop-change.invariant.all);
      nothing = c.in_ok-commit.ensures.nothing;
      part = λ new under_way part. c.loop-change.invariant.part new under_way
          (subst (λ r. MadePart d r new under_way) (sym steps) (one_made d x rest new under_way (subst (λ e. MadePart e rest new under_way) made part)));
    }
