use Rattle.std.proofs.Common.{sym, ap, ◌∙◌, subst}
use Rattle.chunk_store.specs.Stores.{StoreState}
use Rattle.replica_store.specs.Replicas.{ServerDisk}
use Rattle.disk_store.specs.Standing.{DiskStoreView, IsKept, disk_said}
use Rattle.disk_store.proofs.Quiet.{quiet_kept, quiet_said}
use Rattle.disk_store.proofs.Leaving.{no_more}
use Rattle.disk_store.proofs.disk_store.DiskStoreArmedStore.arm.Goals as goal

pub invariant_of-self : goal.invariant_of-self
invariant_of-self g c =
    let was = c.self.inside in
    let disk = g.D.Disk in
    let seen = c.arm.ensures.reads.seen_same in
    let less = no_more disk.seen disk.may_leave disk.moment disk.left_since was.store.disk c.arm.new.self.disk c.arm.ensures.reads in
    let told = subst (λ (s : StoreState _). IsKept disk.seen disk.may_leave s was.known.order was.known.rows (disk_said g.D.Disk.seen was.store was.before.items was.standing) was.standing) (sym c.arm.ensures.unchanged)
    (quiet_kept disk.seen disk.may_leave was.store was.known.order was.known.rows (disk_said g.D.Disk.seen was.store was.before.items was.standing) c.arm.new.self.disk seen less was.standing c.self.invariant.0) in
    let said = ap (λ (s : StoreState _). disk_said disk.seen s was.before.items was.standing) c.arm.ensures.unchanged
    ∙ quiet_said disk.seen disk.may_leave was.store was.known.order was.known.rows (disk_said g.D.Disk.seen was.store was.before.items was.standing) c.arm.new.self.disk seen less was.before.items was.standing in (
      subst (λ (e : ServerDisk). IsKept disk.seen disk.may_leave c.arm.new.self was.known.order was.known.rows e was.standing) (sym said) told,
      c.self.invariant.1,
    )

pub returns-clause-disk : goal.returns-clause-disk
returns-clause-disk g c =
    let was = c.self.inside in
    let disk = g.D.Disk in
    let less = no_more disk.seen disk.may_leave disk.moment disk.left_since was.store.disk c.arm.new.self.disk c.arm.ensures.reads in
    ap (λ (s : StoreState _). disk_said disk.seen s was.before.items was.standing) c.arm.ensures.unchanged
    ∙ quiet_said disk.seen disk.may_leave was.store was.known.order was.known.rows (disk_said g.D.Disk.seen was.store was.before.items was.standing) c.arm.new.self.disk c.arm.ensures.reads.seen_same less was.before.items was.standing
    ∙ ap (λ (s : DiskStoreView). s.disk) c.self.view_is

pub returns-clause-under_way : goal.returns-clause-under_way
returns-clause-under_way g c = ap (λ (s : DiskStoreView). s.under_way) c.self.view_is

pub returns-clause-open : goal.returns-clause-open
returns-clause-open g c = ap (λ (s : DiskStoreView). s.is_open) c.self.view_is

pub returns-clause-failed : goal.returns-clause-failed
returns-clause-failed g c = c.arm.ensures.failed ∙ ap (λ (s : DiskStoreView). s.failed) c.self.view_is
