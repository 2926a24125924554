use Rattle.std.proofs.Common.{refl, sym, ◌∙◌}
use Rattle.replica_store.specs.declared.change.StoreChange.TheVariants.{Remove}
use Rattle.replica_store.specs.Replicas.{disk_changed}
use Rattle.store_changes.specs.Faults.{fault_of}
use Rattle.store_changes.proofs.Answered.{disk_never, not_refused}
use Rattle.chunk_store.proofs.StillOpen.{chunk_there, none_held, still_open}
use Rattle.chunk_store.proofs.Ready.{leaves_none, ready_after}
use Rattle.chunk_store.proofs.volume.StoreVolume.drop_replica.Goals as goal

pub returns-in_default-clause-no_chunk : goal.returns-in_default-clause-no_chunk
returns-in_default-clause-no_chunk g c d is =
    let none = none_held g.D.Disk.seen g.D.Disk.may_leave c.args.self.now d is c.args.handle.0 (sym (c.held_within.ensures.known d is) ∙ c.in_default.is) in
    (λ e. none, λ e. refl)

pub returns-in_default-clause-any_moment : goal.returns-in_default-clause-any_moment
returns-in_default-clause-any_moment g c =
    let disk = g.D.Disk in
    leaves_none disk.seen disk.may_leave c.args.self.now c.requires.ready disk.moment disk.left_since (g.met.D.Disk.only_now c.args.self.now.disk) (Remove c.args.handle)

pub returns-clause-ok : goal.returns-clause-ok
returns-clause-ok g c d is =
    let store = c.args.self.now in
    still_open g.D.Disk.seen g.D.Disk.may_leave store d is c.remove.new.disk c.remove.new.index store.order (disk_changed d (Remove c.args.handle)) c.remove.ensures.size is.order c.in_ok-remove.ensures.rest (c.in_ok-remove.ensures.made d is.says)

pub returns-clause-no_chunk : goal.returns-clause-no_chunk
returns-clause-no_chunk g c d is = chunk_there g.D.Disk.seen g.D.Disk.may_leave c.args.self.now d is c.args.handle.0 c.in-Some.found (c.held_within.ensures.held c.in-Some.found c.in-Some.is) (λ e. absurd cc)

pub returns-in_err-remove-clause-refused : goal.returns-in_err-remove-clause-refused
returns-in_err-remove-clause-refused g c d is e = absurd (not_refused c.from_residual.result (fault_of c.in_err-remove.field-0.0) c.from_residual.ensures.1 (disk_never c.in_err-remove.field-0.0) e)

pub returns-in_err-remove-clause-only : goal.returns-in_err-remove-clause-only
returns-in_err-remove-clause-only g c e = absurd (not_refused c.from_residual.result (fault_of c.in_err-remove.field-0.0) c.from_residual.ensures.1 (disk_never c.in_err-remove.field-0.0) e)

pub remove-requires-clause-found : goal.remove-requires-clause-found
remove-requires-clause-found g c = c.held_within.ensures.held c.in-Some.found c.in-Some.is

pub returns-in_err-remove-clause-kept : goal.returns-in_err-remove-clause-kept
returns-in_err-remove-clause-kept g c e = absurd (not_refused c.from_residual.result (fault_of c.in_err-remove.field-0.0) c.from_residual.ensures.1 (disk_never c.in_err-remove.field-0.0) e)

pub returns-clause-ready : goal.returns-clause-ready
returns-clause-ready g c = (let store = c.args.self.now in ready_after g.D.Disk.seen g.D.Disk.may_leave store c.requires.ready c.remove.new.disk c.remove.new.index store.order c.remove.ensures.size c.in_ok-remove.ensures.rest)
