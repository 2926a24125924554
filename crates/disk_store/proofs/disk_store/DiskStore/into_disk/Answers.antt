use Rattle.std.proofs.Common.{sym, ap, ◌∙◌, subst}
use Rattle.chunk_store.specs.Opening.{HoldsReplicas}
use Rattle.disk_store.specs.Standing.{DiskStoreView, LeavesHolding}
use Rattle.disk_store.proofs.Leaving.{disk_holds, disk_left}
use Rattle.disk_store.proofs.disk_store.DiskStore.into_disk.Goals as goal

pub returns-clause-holds : goal.returns-clause-holds
returns-clause-holds g c opened =
    let disk = g.D.Disk in
    let was = c.self.inside in
    let view = c.self.view_is in
    let said = c.args.self.disk in
    subst (λ x. HoldsReplicas said.chunk said.block said.slots (disk.seen x) said) (sym c.into_disk.ensures)
    (subst (λ (s : DiskStoreView). HoldsReplicas s.disk.chunk s.disk.block s.disk.slots (disk.seen was.store.disk) s.disk) view
    (disk_holds disk.seen disk.may_leave was.store was.known.order was.known.rows was.before.items was.standing c.self.invariant.0 (ap (λ (s : DiskStoreView). s.is_open) view ∙ opened)))

pub returns-clause-left : goal.returns-clause-left
returns-clause-left g c =
    let disk = g.D.Disk in
    let was = c.self.inside in
    subst (λ x. LeavesHolding (disk.may_leave x) c.args.self.disk c.args.self.under_way) (sym c.into_disk.ensures)
    (subst (λ (s : DiskStoreView). LeavesHolding (disk.may_leave was.store.disk) s.disk s.under_way) c.self.view_is
    (disk_left disk.seen disk.may_leave was.store was.known.order was.known.rows was.before.items was.standing c.self.invariant.0))

pub returns-clause-failed : goal.returns-clause-failed
returns-clause-failed g c = ap g.D.Disk.failed c.into_disk.ensures ∙ ap (λ (s : DiskStoreView). s.failed) c.self.view_is
