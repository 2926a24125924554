use Rattle.std.proofs.Common.{◌≡◌, refl, sym, ap, ◌∙◌, subst, arith, None}
use Rattle.std.specs.Prelude.{IfOk}
use Rattle.replica_store.specs.Replicas.{read_at}
use Rattle.disk_store.specs.Standing.{DiskStoreView, disk_said}
use Rattle.disk_store.proofs.Commits.{looked_anew, looked_said, open_as}
use Rattle.disk_store.proofs.Looked.{none_readable}
use Rattle.disk_store.proofs.Causes.{closed_cause, no_cause, told_cause}
use Rattle.disk_store.proofs.disk_store.DiskStoreReplicaStore.read.Goals as goal

pub returns-in_default-clause-value : goal.returns-in_default-clause-value
returns-in_default-clause-value g c =
    let was = c.self.inside in
    subst (λ (s : DiskStoreView). None ≡ read_at s.disk c.args.handle.0 c.args.offset c.args.count) c.self.view_is
    (none_readable (disk_said g.D.Disk.seen was.store was.before.items was.standing) c.args.handle.0 c.args.offset c.args.count (sym (c.self.invariant.0.known.rows_are c.args.handle.0) ∙ sym c.row.ensures ∙ c.in_default.is))

pub read-requires : goal.read-requires
read-requires g c =
    let was = c.self.inside in
    record { is_open = (open_as g.D.Disk.seen g.D.Disk.may_leave was.store was.known.order was.known.rows (disk_said g.D.Disk.seen was.store was.before.items was.standing) was.standing c.self.invariant.0 c.in-Open.is).is_open }

pub invariant_of-self : goal.invariant_of-self
invariant_of-self g c =
    let was = c.self.inside in (
      looked_anew g.D.Disk.seen g.D.Disk.may_leave was.store was.known.order was.known.rows (disk_said g.D.Disk.seen was.store was.before.items was.standing) was.standing c.self.invariant.0 c.read.new.store c.read.ensures.unchanged c.read.ensures.still_open c.in-Open.is was.before.items,
      c.self.invariant.1,
    )

pub returns-clause-disk : goal.returns-clause-disk
returns-clause-disk g c =
    let was = c.self.inside in
    looked_said g.D.Disk.seen g.D.Disk.may_leave was.store was.known.order was.known.rows (disk_said g.D.Disk.seen was.store was.before.items was.standing) was.standing c.self.invariant.0 c.read.new.store c.read.ensures.unchanged c.read.ensures.still_open c.in-Open.is was.before.items
    ∙ ap (λ (s : DiskStoreView). s.disk) c.self.view_is

pub returns-clause-nothing : goal.returns-clause-nothing
returns-clause-nothing g c = ap (λ (s : DiskStoreView). s.under_way) c.self.view_is ∙ c.requires

pub returns-clause-value : goal.returns-clause-value
returns-clause-value g c =
    let was = c.self.inside in
    subst (λ (s : DiskStoreView). IfOk c.read.result (λ o. o ≡ read_at s.disk c.args.handle.0 c.args.offset c.args.count)) c.self.view_is
    (c.read.ensures.value (disk_said g.D.Disk.seen was.store was.before.items was.standing) (open_as g.D.Disk.seen g.D.Disk.may_leave was.store was.known.order was.known.rows (disk_said g.D.Disk.seen was.store was.before.items was.standing) was.standing c.self.invariant.0 c.in-Open.is))

pub returns-in_default-standing-clause-cause : goal.returns-in_default-standing-clause-cause
returns-in_default-standing-clause-cause g c = rw (← c.self.view_is) (closed_cause c.self.inside.standing _ c.in_default-standing.not-Open)

pub returns-clause-cause : goal.returns-clause-cause
returns-clause-cause g c =
    let was = c.self.inside in
    let opened = open_as g.D.Disk.seen g.D.Disk.may_leave was.store was.known.order was.known.rows (disk_said g.D.Disk.seen was.store was.before.items was.standing) was.standing c.self.invariant.0 c.in-Open.is in
    let row = sym (c.self.invariant.0.known.rows_are c.args.handle.0) ∙ sym c.row.ensures ∙ c.in-Some.is in
    rw (← c.self.view_is) (told_cause _ _ _ c.read.result (c.read.ensures.cause (disk_said g.D.Disk.seen was.store was.before.items was.standing) c.in-Some.row opened row refl))

pub returns-in_default-clause-cause : goal.returns-in_default-clause-cause
returns-in_default-clause-cause g c = rw (← c.self.view_is) (no_cause _ _ _ _ (omega arith))

pub returns-clause-open : goal.returns-clause-open
returns-clause-open g c = ap (λ (s : DiskStoreView). s.is_open) c.self.view_is
