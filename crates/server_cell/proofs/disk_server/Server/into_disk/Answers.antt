use Rattle.std.proofs.Common.{List, ap, subst, ◌∙◌}
use Rattle.replica_store.specs.declared.change.StoreChange.{StoreChange}
use Rattle.replica_store.specs.Replicas.{ServerDisk}
use Rattle.server_handlers.specs.Standing.{HeldServerState}
use Rattle.disk_store.specs.Standing.{LeavesHolding}
use Rattle.server_cell.proofs.disk_server.Server.into_disk.Goals as goal

pub returns-clause-left : goal.returns-clause-left
returns-clause-left g c =
    let left = g.D.Disk.may_leave c.into_disk.result in
    let was = c.self.inside.chunkserver.state in
    subst (λ (s : HeldServerState). LeavesHolding left s.state.disk s.state.under_way) c.self.view_is
    (subst (λ (d : ServerDisk). LeavesHolding left d was.under_way) c.into_store.ensures.disk
    (subst (λ (xs : List StoreChange). LeavesHolding left c.into_store.result.disk xs) c.into_store.ensures.under_way c.into_disk.ensures.left))

pub returns-clause-failed : goal.returns-clause-failed
returns-clause-failed g c = c.into_disk.ensures.failed ∙ c.into_store.ensures.failed ∙ ap (λ (s : HeldServerState). s.failed) c.self.view_is
