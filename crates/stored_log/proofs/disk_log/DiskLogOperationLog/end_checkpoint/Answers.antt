use Rattle.std.proofs.Common.{◌≡◌, ◌+◌, ℕ, [], refl, sym, ap, subst, ◌∙◌, rules}
use Rattle.std.specs.Prelude.{Err}
use Rattle.oplog.specs.Faults.{stays_open}
use Rattle.oplog.specs.Writing.{area_with}
use Rattle.stored_log.specs.Kept.{Takes}
use Rattle.stored_log.proofs.Keeping.{area_taken, checkpoint_failed, no_writing, same_taken, still_kept}
use Rattle.stored_log.specs.Faults.{fault_of}
use Rattle.stored_log.proofs.Causes.{closed_cause, device_closes, log_cause}
use Rattle.stored_log.proofs.disk_log.DiskLogOperationLog.end_checkpoint.Goals as goal

pub invariant_of-self : goal.invariant_of-self
invariant_of-self g c =
    let was = c.self.inside in
    let writing = c.deref-2.result.now in
    let taken : writing ≡ was.writing.items = search rules in
    let fresh : c.replace-writing.new.dest.items ≡ [] = search rules in
    let next = was.log.area.number + 1 in (
      still_kept g.D.Disk.may_leave c.checkpoint.new.self was.standing c.in-Open.is (c.checkpoint.ensures.open ∙ ap stays_open c.in-Ok.is),
      area_taken c.replace-written.result (area_with next writing) c.checkpoint.new.self.area c.in-Ok.ensures.ok
          (subst (λ (n : ℕ). Takes n writing []) (sym c.replace-written.ensures.value) (same_taken was.written was.writing.items [] writing [] taken refl c.self.invariant.2.0)),
      no_writing c.replace-written.new.dest c.replace-writing.new.dest.items c.replace-written.ensures.after fresh,
      (c.self.invariant.3.0, c.checkpoint.ensures.size ∙ c.self.invariant.3.1),
      tt,
    )

pub invariant_of-self-in_default-fault : goal.invariant_of-self-in_default-fault
invariant_of-self-in_default-fault g c =
    let was = c.self.inside in
    let fresh : c.replace-writing.new.dest.items ≡ [] = search rules in
    let opened = (rw c.in-Err.is at c.checkpoint.ensures.open) ∙ device_closes c.in-Err.fault c.in_default-fault.not-Device in (
      still_kept g.D.Disk.may_leave c.checkpoint.new.self was.standing c.in-Open.is opened,
      area_taken was.used was.log.area c.checkpoint.new.self.area c.in-Err.ensures.err c.self.invariant.1,
      no_writing c.replace-written.new.dest c.replace-writing.new.dest.items c.replace-written.ensures.after fresh,
      (c.self.invariant.3.0, c.checkpoint.ensures.size ∙ c.self.invariant.3.1),
      tt,
    )

pub invariant_of-self-in-Device : goal.invariant_of-self-in-Device
invariant_of-self-in-Device g c =
    let was = c.self.inside in
    let disk = g.D.Disk in
    let fresh : c.replace-writing.new.dest.items ≡ [] = search rules in
    let written : c.of.result ≡ c.deref-2.result.now = search rules in (
      checkpoint_failed disk.may_leave disk.moment disk.left_since g.met.D.Disk.counts_now was.log c.checkpoint.new.self c.deref-2.result.now c.of.result c.in-Err.ensures.err c.checkpoint.ensures.any_moment written,
      area_taken was.used was.log.area c.checkpoint.new.self.area c.in-Err.ensures.err c.self.invariant.1,
      no_writing c.replace-written.new.dest c.replace-writing.new.dest.items c.replace-written.ensures.after fresh,
      (c.self.invariant.3.0, c.checkpoint.ensures.size ∙ c.self.invariant.3.1),
      tt,
    )

pub returns-in_default-clause-cause : goal.returns-in_default-clause-cause
returns-in_default-clause-cause g c = rw (← c.self.view_is) (closed_cause c.self.inside.standing _ c.in_default.not-Open)

pub returns-in-Device-clause-cause : goal.returns-in-Device-clause-cause
returns-in-Device-clause-cause g c = rw (← c.self.view_is) (log_cause _ _ _ c.in-Err.fault _ (sym (ap fault_of c.in-Device.is)) c.in-Err.ensures.cause)
