use Rattle.std.proofs.Common.{refl, sym, ◌∙◌}
use Rattle.replica_store.specs.Replicas.{disk_changed, replica_of, rotten_replica}
use Rattle.replica_store.specs.declared.change.StoreChange.TheVariants.{Rot}
use Rattle.store_changes.proofs.Made.{nothing_made}
use Rattle.store_disk.proofs.Looked.{order_stays}
use Rattle.store_changes.specs.Faults.{fault_of}
use Rattle.store_changes.proofs.Answered.{disk_never, not_refused}
use Rattle.chunk_store.proofs.StillOpen.{chunk_there, none_held, still_open}
use Rattle.chunk_store.proofs.Ready.{ready_after}
use Rattle.chunk_store.proofs.volume.StoreVolume.rot.Goals as goal

pub returns-in_default-clause-no_chunk : goal.returns-in_default-clause-no_chunk
returns-in_default-clause-no_chunk g c d is =
    let none = none_held g.D.Disk.seen g.D.Disk.may_leave c.args.self.now d is c.args.handle.0 (sym (c.held_within.ensures.known d is) ∙ c.in_default.is) in
    (λ e. none, λ e. refl)

pub returns-in_default-clause-any_moment : goal.returns-in_default-clause-any_moment
returns-in_default-clause-any_moment g c =
    let disk = g.D.Disk in
    let store = c.args.self.now in
    let l = store.layout in
    nothing_made disk.seen disk.may_leave disk.moment disk.left_since l.chunk l.block l.slots store.index (Rot c.args.handle c.args.place c.args.byte) store.disk c.requires.ready.rest.durable (g.met.D.Disk.only_now store.disk)

pub rot-requires-clause-found : goal.rot-requires-clause-found
rot-requires-clause-found g c = c.held_within.ensures.held c.in-Some.found c.in-Some.is

pub returns-clause-ok : goal.returns-clause-ok
returns-clause-ok g c d is =
    let store = c.args.self.now in
    still_open g.D.Disk.seen g.D.Disk.may_leave store d is c.rot.new.disk store.index store.order (disk_changed d (Rot c.args.handle c.args.place c.args.byte)) c.rot.ensures.size
    (is.order ∙ order_stays (λ r. rotten_replica r c.args.place c.args.byte) d c.args.handle.0 (replica_of d c.args.handle.0)) c.in_ok-rot.ensures.rest (c.in_ok-rot.ensures.made d is.says)

pub returns-clause-no_chunk : goal.returns-clause-no_chunk
returns-clause-no_chunk g c d is = chunk_there g.D.Disk.seen g.D.Disk.may_leave c.args.self.now d is c.args.handle.0 c.in-Some.found (c.held_within.ensures.held c.in-Some.found c.in-Some.is) (λ e. absurd cc)

pub returns-in_err-rot-clause-refused : goal.returns-in_err-rot-clause-refused
returns-in_err-rot-clause-refused g c d is e = absurd (not_refused c.from_residual.result (fault_of c.in_err-rot.field-0.0) c.from_residual.ensures.1 (disk_never c.in_err-rot.field-0.0) e)

pub returns-in_err-rot-clause-only : goal.returns-in_err-rot-clause-only
returns-in_err-rot-clause-only g c e = absurd (not_refused c.from_residual.result (fault_of c.in_err-rot.field-0.0) c.from_residual.ensures.1 (disk_never c.in_err-rot.field-0.0) e)

pub returns-in_err-rot-clause-kept : goal.returns-in_err-rot-clause-kept
returns-in_err-rot-clause-kept g c e = absurd (not_refused c.from_residual.result (fault_of c.in_err-rot.field-0.0) c.from_residual.ensures.1 (disk_never c.in_err-rot.field-0.0) e)

pub returns-clause-ready : goal.returns-clause-ready
returns-clause-ready g c = (let store = c.args.self.now in ready_after g.D.Disk.seen g.D.Disk.may_leave store c.requires.ready c.rot.new.disk store.index store.order c.rot.ensures.size c.in_ok-rot.ensures.rest)
