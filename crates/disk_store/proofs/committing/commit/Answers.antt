use Rattle.std.proofs.Common.{◌≡◌, ℕ, true, false, inl, inr, sym, ap, ◌∙◌, refl, subst, arith, Some, Err}
use Rattle.replica_store.specs.Stores.{IsCopyable}
use Rattle.replica_store.specs.declared.fault.ReplicaStoreFault.{ReplicaStoreFault}
use Rattle.replica_store.specs.declared.fault.ReplicaStoreFault.TheVariants.{NoMemory, NoRoom}
use Rattle.store_changes.specs.declared.fault.StoreFault.{StoreFault as ChangeFault}
use Rattle.disk_store.specs.declared.known.Known.{Known}
use Rattle.disk_store.specs.Faults.{HasCauseOf, of_change}
use Rattle.disk_store.specs.Known.{can_be_made}
use Rattle.disk_store.specs.Standing.{IsKept, changes_of}
use Rattle.disk_store.specs.declared.standing.DiskStoreState.{DiskStoreState}
use Rattle.disk_store.specs.declared.standing.DiskStoreState.TheVariants.{Open, Unread, Changing}
use Rattle.chunk_store.proofs.States.{enough_bytes}
use Rattle.disk_store.proofs.Causes.{begun_cause, only_room, other_cause, unfit_or}
use Rattle.disk_store.proofs.Commits.{failed_after, made_after, open_as, unbegun_after, unknown_after}
use Rattle.disk_store.proofs.Keeping.{refused_is, refused_kept}
use Rattle.disk_store.proofs.committing.commit.Goals as goal

pub returns-in-Err-clause-open : goal.returns-in-Err-clause-open
returns-in-Err-clause-open g c = ap changes_of c.refused.ensures ∙ refused_is c.args.standing c.args.change c.requires.nothing

pub returns-in-Err-clause-err : goal.returns-in-Err-clause-err
returns-in-Err-clause-err g c d kept =
    let disk = g.D.Disk in
    let s = c.args.store.now in
    let n = c.args.known.now in
    subst (λ (x : DiskStoreState). IsKept disk.seen disk.may_leave s n.order n.rows d x) (sym c.refused.ensures) (refused_kept disk.seen disk.may_leave s n.order n.rows d c.args.standing c.args.change c.requires.nothing kept)

pub returns-in-Err-clause-no_room : goal.returns-in-Err-clause-no_room
returns-in-Err-clause-no_room g c d kept e = let unfit = c.in-Err.ensures.no_room (ap (λ (x : ReplicaStoreFault). Err x) e) in inl (inl (subst (λ (n : ℕ). can_be_made n c.args.known.now.rows c.args.change ≡ false) c.chunk-chunk.ensures unfit.1))

pub make-requires-clause-is_open : goal.make-requires-clause-is_open
make-requires-clause-is_open g c =
    let disk = g.D.Disk in
    let n = c.args.known.now in
    let some = c.requires.kept in
    (open_as disk.seen disk.may_leave c.args.store.now n.order n.rows some.0 c.args.standing some.1 c.in-Ok.ensures.open).is_open

pub make-requires-clause-told : goal.make-requires-clause-told
make-requires-clause-told g c = subst (λ (n : ℕ). can_be_made n c.args.known.now.rows c.args.change ≡ true) c.chunk-chunk.ensures c.in-Ok.ensures.told

pub returns-in-Err-make-clause-open : goal.returns-in-Err-make-clause-open
returns-in-Err-make-clause-open g c = elim (unfit_or c.in-Err-make.fault c.args.change) [
  | inl is ↦ ap (λ (p : ReplicaStoreFault × DiskStoreState). changes_of p.1) (c.failed.ensures.unfit is.0 is.1)
  | inr other ↦ ap (λ (p : ReplicaStoreFault × DiskStoreState). changes_of p.1) (c.failed.ensures.begun other)
]

pub returns-in-Err-make-clause-err : goal.returns-in-Err-make-clause-err
returns-in-Err-make-clause-err g c d kept =
    let disk = g.D.Disk in
    let s = c.args.store.now in
    let n = c.args.known.now in
    let opened = open_as disk.seen disk.may_leave s n.order n.rows d c.args.standing kept c.in-Ok.ensures.open in
    elim (unfit_or c.in-Err-make.fault c.args.change) [
      | inl is ↦ subst (λ (p : ReplicaStoreFault × DiskStoreState). IsKept disk.seen disk.may_leave c.make.new.store n.order n.rows d p.1) (sym (c.failed.ensures.unfit is.0 is.1))
          (unbegun_after disk.seen disk.may_leave s n.order n.rows d c.args.standing kept c.in-Ok.ensures.open c.args.change c.make.new.store c.make.ensures.layout (c.in-Err-make.ensures.unfit d opened (ap (λ (x : ChangeFault). Err x) is.0) is.1).1)
      | inr other ↦ subst (λ (p : ReplicaStoreFault × DiskStoreState). IsKept disk.seen disk.may_leave c.make.new.store n.order n.rows d p.1) (sym (c.failed.ensures.begun other))
          (failed_after disk.seen disk.may_leave s n.order n.rows d c.args.standing kept c.in-Ok.ensures.open c.args.change c.make.new.store c.make.ensures.layout disk.moment disk.left_since g.met.D.Disk.counts_now c.make.ensures.any_moment)
    ]

pub returns-in-Err-make-clause-no_room : goal.returns-in-Err-make-clause-no_room
returns-in-Err-make-clause-no_room g c d kept e =
    let disk = g.D.Disk in
    let n = c.args.known.now in
    let opened = open_as disk.seen disk.may_leave c.args.store.now n.order n.rows d c.args.standing kept c.in-Ok.ensures.open in
    elim (unfit_or c.in-Err-make.fault c.args.change) [
      | inl is ↦ inl (inr (c.in-Err-make.ensures.unfit d opened (ap (λ (x : ChangeFault). Err x) is.0) is.1).0)
      | inr other ↦
          let room = only_room c.in-Err-make.fault (of_change c.in-Err-make.fault) refl (sym (ap (λ (p : ReplicaStoreFault × DiskStoreState). p.0) (c.failed.ensures.begun other)) ∙ e) in
          inr (c.in-Err-make.ensures.no_room d opened (ap (λ (x : ChangeFault). Err x) room))
    ]

pub make-requires-2 : goal.make-requires-2
make-requires-2 g c = c.in-Ok.ensures.told

pub returns-in-Ok-make-2-clause-ok : goal.returns-in-Ok-make-2-clause-ok
returns-in-Ok-make-2-clause-ok g c d kept =
    let disk = g.D.Disk in
    let s = c.args.store.now in
    let n = c.args.known.now in
    let opened = open_as disk.seen disk.may_leave s n.order n.rows d c.args.standing kept c.in-Ok.ensures.open in
    made_after disk.seen disk.may_leave s n.order n.rows d c.args.standing kept c.in-Ok.ensures.open c.args.change c.make.new.store c.make.ensures.layout c.make-2.new.self.order c.make-2.new.self.rows
    (c.in-Ok-make-2.ensures.ok d kept.known (enough_bytes disk.seen disk.may_leave s d opened)) (c.in-Ok-make.ensures.ok d opened)

pub returns-clause-err : goal.returns-clause-err
returns-clause-err g c d kept =
    let disk = g.D.Disk in
    let s = c.args.store.now in
    let n = c.args.known.now in
    let opened = open_as disk.seen disk.may_leave s n.order n.rows d c.args.standing kept c.in-Ok.ensures.open in
    subst (λ (k : Known). IsKept disk.seen disk.may_leave c.make.new.store k.order k.rows d (Changing c.args.change)) (sym c.in-Err-make-2.ensures.err)
    (unknown_after disk.seen disk.may_leave s n.order n.rows d c.args.standing kept c.in-Ok.ensures.open c.args.change c.make.new.store c.make.ensures.layout (c.in-Ok-make.ensures.ok d opened))

pub returns-in-Err-clause-cause : goal.returns-in-Err-clause-cause
returns-in-Err-clause-cause g c d kept =
    other_cause _ _ _ c.in-Err.fault c.refused.result (omega arith) (λ began e. c.in-Err.ensures.closed (ap (λ (x : ReplicaStoreFault). Err x) e) began.0)
    (λ e. c.in-Err.ensures.undamaged (ap (λ (x : ReplicaStoreFault). Err x) e))

pub returns-in-Err-make-clause-cause : goal.returns-in-Err-make-clause-cause
returns-in-Err-make-clause-cause g c d kept =
    let n = c.args.known.now in
    let before : ℕ = g.D.Disk.failed c.args.store.now.disk in
    let now : ℕ = g.D.Disk.failed c.make.new.store.disk in
    let Began : Type 0 = (c.args.standing ≡ Open) × IsCopyable d c.args.change in
    let opened = open_as g.D.Disk.seen g.D.Disk.may_leave c.args.store.now n.order n.rows d c.args.standing kept c.in-Ok.ensures.open in
    let call = c.in-Err-make.ensures in
    elim (unfit_or c.in-Err-make.fault c.args.change) [
      | inl is ↦ subst (λ (p : ReplicaStoreFault × DiskStoreState). HasCauseOf {T = Unit {0}} Began before now (Err p)) (sym (c.failed.ensures.unfit is.0 is.1))
          (other_cause {T = Unit {0}} Began before now NoRoom (Unread (Some c.args.change)) call.cause.later (λ began e. cc) (λ e. cc))
      | inr other ↦ subst (λ (p : ReplicaStoreFault × DiskStoreState). HasCauseOf {T = Unit {0}} Began before now (Err p)) (sym (c.failed.ensures.begun other))
          (begun_cause {U = Unit {0}} Began before now c.args.change c.in-Err-make.fault (Changing c.args.change) other (λ began. call.only d opened kept.known began.1) call.cause)
    ]

pub returns-in-Ok-make-2-clause-cause : goal.returns-in-Ok-make-2-clause-cause
returns-in-Ok-make-2-clause-cause g c d kept = record { later = c.in-Ok-make.ensures.cause.later; failed = λ began. tt; undamaged = tt }

pub returns-clause-cause : goal.returns-clause-cause
returns-clause-cause g c d kept = other_cause _ _ _ NoMemory (Changing c.args.change) c.in-Ok-make.ensures.cause.later (λ began e. cc) (λ e. cc)
