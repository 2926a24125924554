use Rattle.std.proofs.Common.{inl, inr, refl, ap, ◌∙◌, Err}
use Rattle.replica_store.specs.declared.change.StoreChange.TheVariants.{Raise}
use Rattle.replica_store.specs.Replicas.{disk_changed, raised_replica, replica_of}
use Rattle.store_changes.specs.declared.fault.StoreFault.{StoreFault}
use Rattle.store_changes.specs.declared.fault.StoreFault.TheVariants as faults
use Rattle.store_changes.specs.Faults.{fault_of}
use Rattle.store_changes.proofs.Answered.{disk_never, handed_over, never, not_refused}
use Rattle.store_disk.proofs.Looked.{order_stays}
use Rattle.chunk_store.proofs.StillOpen.{chunk_there, still_open, version_there}
use Rattle.chunk_store.proofs.Ready.{leaves_none, ready_after}
use Rattle.chunk_store.proofs.volume.StoreVolume.set_version.Goals as goal

pub returns-in-Err-clause-version : goal.returns-in-Err-clause-version
returns-in-Err-clause-version g c d is = handed_over c.in-Err.fault faults.Version (c.in-Err.ensures.version d is)

pub returns-in-Err-clause-any_moment : goal.returns-in-Err-clause-any_moment
returns-in-Err-clause-any_moment g c =
    let disk = g.D.Disk in
    leaves_none disk.seen disk.may_leave c.args.self.now c.requires.ready disk.moment disk.left_since (g.met.D.Disk.only_now c.args.self.now.disk) (Raise c.args.handle c.args.version)

pub returns-clause-ok : goal.returns-clause-ok
returns-clause-ok g c d is =
    let store = c.args.self.now in
    still_open g.D.Disk.seen g.D.Disk.may_leave store d is c.raise.new.disk c.raise.new.index store.order (disk_changed d (Raise c.args.handle c.args.version)) c.raise.ensures.size
    (is.order ∙ order_stays (λ r. raised_replica r c.args.version.0) d c.args.handle.0 (replica_of d c.args.handle.0)) c.in_ok-raise.ensures.rest (c.in_ok-raise.ensures.made d is.says)

pub returns-clause-no_chunk : goal.returns-clause-no_chunk
returns-clause-no_chunk g c d is = chunk_there g.D.Disk.seen g.D.Disk.may_leave c.args.self.now d is c.args.handle.0 c.in-Ok.found c.in-Ok.ensures.found.0 (λ e. absurd cc)

pub returns-clause-version : goal.returns-clause-version
returns-clause-version g c d is = version_there g.D.Disk.seen g.D.Disk.may_leave c.args.self.now d is c.args.handle.0 c.in-Ok.found c.args.base c.in-Ok.ensures.found.0 c.in-Ok.ensures.found.1 (λ e. absurd cc)

pub returns-in_err-raise-clause-version : goal.returns-in_err-raise-clause-version
returns-in_err-raise-clause-version g c d is =
    version_there g.D.Disk.seen g.D.Disk.may_leave c.args.self.now d is c.args.handle.0 c.in-Ok.found c.args.base c.in-Ok.ensures.found.0 c.in-Ok.ensures.found.1
    (λ e. never c.from_residual.result (fault_of c.in_err-raise.field-0.0) faults.Version c.from_residual.ensures.1 (disk_never c.in_err-raise.field-0.0) refl e)

pub returns-in_err-raise-clause-refused : goal.returns-in_err-raise-clause-refused
returns-in_err-raise-clause-refused g c d is e = absurd (not_refused c.from_residual.result (fault_of c.in_err-raise.field-0.0) c.from_residual.ensures.1 (disk_never c.in_err-raise.field-0.0) e)

pub returns-in-Err-clause-only : goal.returns-in-Err-clause-only
returns-in-Err-clause-only g c refused = elim c.in-Err.ensures.no_other [
  | inl none ↦ inl (ap (λ (x : StoreFault). Err x) none)
  | inr wrong ↦ inr (ap (λ (x : StoreFault). Err x) wrong)
]

pub returns-in_err-raise-clause-only : goal.returns-in_err-raise-clause-only
returns-in_err-raise-clause-only g c e = absurd (not_refused c.from_residual.result (fault_of c.in_err-raise.field-0.0) c.from_residual.ensures.1 (disk_never c.in_err-raise.field-0.0) e)

pub returns-in_err-raise-clause-kept : goal.returns-in_err-raise-clause-kept
returns-in_err-raise-clause-kept g c e = absurd (not_refused c.from_residual.result (fault_of c.in_err-raise.field-0.0) c.from_residual.ensures.1 (disk_never c.in_err-raise.field-0.0) e)

pub returns-clause-ready : goal.returns-clause-ready
returns-clause-ready g c = (let store = c.args.self.now in ready_after g.D.Disk.seen g.D.Disk.may_leave store c.requires.ready c.raise.new.disk c.raise.new.index store.order c.raise.ensures.size c.in_ok-raise.ensures.rest)
