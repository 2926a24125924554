use Rattle.std.proofs.Common.{◌≡◌, ◌<◌, sym, ◌∙◌, subst}
use Rattle.std.proofs.lemmas.Result.{IfErr-weaker}
use Rattle.disk_redo.specs.GateMoments.{LeavesOnly}
use Rattle.replica_store.specs.Replicas.{ServerDisk}
use Rattle.replica_store.specs.declared.fault.ReplicaStoreFault.TheVariants.{Damaged, DiskFailed, NoMemory}
use Rattle.chunk_store.specs.Opening.{HoldsReplicas, IsOpening}
use Rattle.chunk_store.proofs.Stopped.{held}
use Rattle.disk_store.proofs.Causes.{opening_damaged, opening_failed}
use Rattle.disk_store.proofs.disk_store.DiskStore.open.Goals as goal

pub known_or_disk-requires : goal.known_or_disk-requires
known_or_disk-requires g c = (let some = c.requires.holds in record { kept = (some.0, c.in-Ok.ensures.open some.0 some.1) })

pub returns-in-Ok-clause-opened : goal.returns-in-Ok-clause-opened
returns-in-Ok-clause-opened g c d holds = c.known_or_disk.ensures.opened d (c.in-Ok.ensures.open d holds)

-- Where memory was refused for the rows, the disk is the open store's.

pub returns-in-Ok-clause-held : goal.returns-in-Ok-clause-held
returns-in-Ok-clause-held g c =
    let disk = g.D.Disk in
    let l = c.args.layout in
    IfErr-weaker c.known_or_disk.result
    (λ e. (e.0 ≡ c.in-Ok.store.disk) × (e.1 ≡ NoMemory))
    (λ e. (d : ServerDisk) → HoldsReplicas l.chunk l.block l.slots (disk.seen c.args.disk) d → HoldsReplicas l.chunk l.block l.slots (disk.seen e.0) d)
    (λ e is d holds.
    let now = held disk.seen disk.may_leave c.in-Ok.store d (c.in-Ok.ensures.open d holds) in
    subst (λ x. HoldsReplicas l.chunk l.block l.slots (disk.seen x) d) (sym is.0)
    (subst (λ s. HoldsReplicas s.chunk s.block s.slots (disk.seen c.in-Ok.store.disk) d) c.in-Ok.ensures.layout now))
    c.known_or_disk.ensures.disk

pub returns-in-Ok-clause-any_moment_of_error : goal.returns-in-Ok-clause-any_moment_of_error
returns-in-Ok-clause-any_moment_of_error g c =
    let disk = g.D.Disk in
    let l = c.args.layout in
    IfErr-weaker c.known_or_disk.result
    (λ e. (e.0 ≡ c.in-Ok.store.disk) × (e.1 ≡ NoMemory))
    (λ e. LeavesOnly disk.moment disk.left_since c.args.disk e.0 (IsOpening l.chunk l.block l.slots (disk.seen c.args.disk) (disk.may_leave c.args.disk)))
    (λ e is.
    subst (λ x. LeavesOnly disk.moment disk.left_since c.args.disk x (IsOpening l.chunk l.block l.slots (disk.seen c.args.disk) (disk.may_leave c.args.disk))) (sym is.0)
    c.in-Ok.ensures.any_moment)
    c.known_or_disk.ensures.disk

pub returns-in-Ok-clause-cause : goal.returns-in-Ok-clause-cause
returns-in-Ok-clause-cause g c =
    let disk = g.D.Disk in
    IfErr-weaker c.known_or_disk.result
    (λ e. (e.0 ≡ c.in-Ok.store.disk) × (e.1 ≡ NoMemory))
    (λ e. e.1 ≡ DiskFailed → disk.failed c.args.disk < disk.failed e.0)
    (λ e is failed. let both : NoMemory ≡ DiskFailed = sym is.1 ∙ failed in absurd cc)
    c.known_or_disk.ensures.disk

pub returns-in-Ok-clause-undamaged : goal.returns-in-Ok-clause-undamaged
returns-in-Ok-clause-undamaged g c large head =
    IfErr-weaker c.known_or_disk.result
    (λ e. (e.0 ≡ c.in-Ok.store.disk) × (e.1 ≡ NoMemory))
    (λ e. e.1 ≡ Damaged → ⊥)
    (λ e is damaged. let both : NoMemory ≡ Damaged = sym is.1 ∙ damaged in cc)
    c.known_or_disk.ensures.disk

pub returns-in-Err-clause-cause : goal.returns-in-Err-clause-cause
returns-in-Err-clause-cause g c failed = c.in-Err.ensures.cause (opening_failed c.in-Err.fault c.fault_of_opening.result c.fault_of_opening.ensures failed)

pub returns-in-Err-clause-undamaged : goal.returns-in-Err-clause-undamaged
returns-in-Err-clause-undamaged g c large head damaged = c.in-Err.ensures.undamaged large head (opening_damaged c.in-Err.fault c.fault_of_opening.result c.fault_of_opening.ensures damaged)
