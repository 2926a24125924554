use Rattle.std.proofs.Common.{◌≡◌, refl, sym, ap, ◌∙◌, subst, List}
use Rattle.replica_store.specs.Replicas.{ServerDisk, disk_changed}
use Rattle.replica_store.specs.declared.fault.ReplicaStoreFault.TheVariants.{Damaged, DiskFailed}
use Rattle.chunk_store.specs.Stores.{StoreState}
use Rattle.disk_store.specs.Standing.{DiskStoreView, IsKept, IsRemembered, changes_of, disk_said, is_standing_open, remembered}
use Rattle.disk_store.specs.declared.standing.DiskStoreState.TheVariants.{Open}
use Rattle.disk_store.proofs.Commits.{left_remembered, left_said, now_said, under_way_closed}
use Rattle.disk_store.proofs.Keeping.{as_said}
use Rattle.disk_store.proofs.Causes.{opened_standing}
use Rattle.disk_store.proofs.disk_store.DiskStoreReplicaStore.commit.Goals as goal

pub commit-requires-clause-kept : goal.commit-requires-clause-kept
commit-requires-clause-kept g c =
    let was = c.self.inside in
    let disk = g.D.Disk in
    let said : ServerDisk = disk_said disk.seen was.store was.before.items was.standing in
    let kept = as_said disk.seen disk.may_leave was.store was.known.order was.known.rows said said was.standing c.replace-standing.result refl c.replace-standing.ensures.value c.self.invariant.0 in
    (said, kept)

pub commit-requires-clause-nothing : goal.commit-requires-clause-nothing
commit-requires-clause-nothing g c = ap changes_of c.replace-standing.ensures.value ∙ ap (λ (s : DiskStoreView). s.under_way) c.self.view_is ∙ c.requires

pub invariant_of-self : goal.invariant_of-self
invariant_of-self g c =
    let was = c.self.inside in
    let disk = g.D.Disk in
    let said : ServerDisk = disk_said disk.seen was.store was.before.items was.standing in
    let kept = as_said disk.seen disk.may_leave was.store was.known.order was.known.rows said said was.standing c.replace-standing.result refl c.replace-standing.ensures.value c.self.invariant.0 in
    let made = c.in-Ok.ensures.ok said kept in
    let now = now_said disk.seen disk.may_leave c.commit.new.store c.commit.new.known.order c.commit.new.known.rows (disk_changed said c.args.change) c.remembered-self-inside.result.items made in
    let here = ap (disk_said disk.seen c.commit.new.store c.remembered-self-inside.result.items) c.replace-standing.ensures.after ∙ now in (
      as_said disk.seen disk.may_leave c.commit.new.store c.commit.new.known.order c.commit.new.known.rows (disk_changed said c.args.change) (disk_said disk.seen c.commit.new.store c.remembered-self-inside.result.items c.replace-standing.new.dest) Open c.replace-standing.new.dest
          here c.replace-standing.ensures.after made,
      subst (IsRemembered c.remembered-self-inside.result.items) (sym c.replace-standing.ensures.after) tt,
    )

pub returns-in-Ok-clause-disk : goal.returns-in-Ok-clause-disk
returns-in-Ok-clause-disk g c =
    let was = c.self.inside in
    let disk = g.D.Disk in
    let said : ServerDisk = disk_said disk.seen was.store was.before.items was.standing in
    let kept = as_said disk.seen disk.may_leave was.store was.known.order was.known.rows said said was.standing c.replace-standing.result refl c.replace-standing.ensures.value c.self.invariant.0 in
    let made = c.in-Ok.ensures.ok said kept in
    ap (disk_said disk.seen c.commit.new.store c.remembered-self-inside.result.items) c.replace-standing.ensures.after
    ∙ now_said disk.seen disk.may_leave c.commit.new.store c.commit.new.known.order c.commit.new.known.rows (disk_changed said c.args.change) c.remembered-self-inside.result.items made
    ∙ ap (λ (s : DiskStoreView). disk_changed s.disk c.args.change) c.self.view_is

pub returns-in-Ok-clause-nothing : goal.returns-in-Ok-clause-nothing
returns-in-Ok-clause-nothing g c = ap changes_of c.replace-standing.ensures.after

pub invariant_of-self-in-Err : goal.invariant_of-self-in-Err
invariant_of-self-in-Err g c =
    let was = c.self.inside in
    let disk = g.D.Disk in
    let said : ServerDisk = disk_said disk.seen was.store was.before.items was.standing in
    let kept = as_said disk.seen disk.may_leave was.store was.known.order was.known.rows said said was.standing c.replace-standing.result refl c.replace-standing.ensures.value c.self.invariant.0 in
    let left = c.in-Err.standing in
    let closed = under_way_closed left c.args.change c.in-Err.ensures.open in
    let items : c.remembered-self-inside.result.items ≡ remembered was.standing was.store was.before.items =
    c.remembered-self-inside.ensures ∙ ap (remembered was.standing was.store) (λ i. (c.replace-before.ensures.value i).items) in
    let here = ap (λ (b : List (StoreState _)). disk_said disk.seen c.commit.new.store b left) items ∙ left_said disk.seen was.store c.commit.new.store was.before.items was.standing left c.self.invariant.1 closed in (
      subst (λ (e : ServerDisk). IsKept disk.seen disk.may_leave c.commit.new.store c.commit.new.known.order c.commit.new.known.rows e left) (sym here) (c.in-Err.ensures.err said kept),
      subst (λ (b : List (StoreState _)). IsRemembered b left) (sym items) (left_remembered disk.seen was.store c.commit.new.store was.before.items was.standing left c.self.invariant.1),
    )

pub returns-in-Err-clause-err : goal.returns-in-Err-clause-err
returns-in-Err-clause-err g c =
    let was = c.self.inside in
    let disk = g.D.Disk in
    let left = c.in-Err.standing in
    let items : c.remembered-self-inside.result.items ≡ remembered was.standing was.store was.before.items =
    c.remembered-self-inside.ensures ∙ ap (remembered was.standing was.store) (λ i. (c.replace-before.ensures.value i).items) in
    ap (λ (b : List (StoreState _)). disk_said disk.seen c.commit.new.store b left) items
    ∙ left_said disk.seen was.store c.commit.new.store was.before.items was.standing left c.self.invariant.1 (under_way_closed left c.args.change c.in-Err.ensures.open)
    ∙ ap (λ (s : DiskStoreView). s.disk) c.self.view_is

pub returns-in-Err-clause-open : goal.returns-in-Err-clause-open
returns-in-Err-clause-open g c = c.in-Err.ensures.open

pub returns-in-Ok-clause-stays_open : goal.returns-in-Ok-clause-stays_open
returns-in-Ok-clause-stays_open g c = ap is_standing_open c.replace-standing.ensures.after

pub returns-in-Ok-clause-cause : goal.returns-in-Ok-clause-cause
returns-in-Ok-clause-cause g c =
    let was = c.self.inside in
    let disk = g.D.Disk in
    let said : ServerDisk = disk_said disk.seen was.store was.before.items was.standing in
    let kept = as_said disk.seen disk.may_leave was.store was.known.order was.known.rows said said was.standing c.replace-standing.result refl c.replace-standing.ensures.value c.self.invariant.0 in
    let cause = c.commit.ensures.cause said kept in
    rw (← c.self.view_is) (λ copyable. record { later = cause.later; failed = λ o e. absurd cc; undamaged = λ e. absurd cc })

pub returns-in-Err-clause-cause : goal.returns-in-Err-clause-cause
returns-in-Err-clause-cause g c =
    let was = c.self.inside in
    let disk = g.D.Disk in
    let said : ServerDisk = disk_said disk.seen was.store was.before.items was.standing in
    let kept = as_said disk.seen disk.may_leave was.store was.known.order was.known.rows said said was.standing c.replace-standing.result refl c.replace-standing.ensures.value c.self.invariant.0 in
    let cause = c.in-Err.ensures.cause said kept in
    rw (← c.self.view_is) (λ copyable. record {
      later = cause.later;
      failed = λ o e. let is : c.in-Err.fault ≡ DiskFailed = cc in cause.failed (c.replace-standing.ensures.value ∙ opened_standing was.standing o, copyable) is;
      undamaged = λ e. let is : c.in-Err.fault ≡ Damaged = cc in cause.undamaged is;
    })
