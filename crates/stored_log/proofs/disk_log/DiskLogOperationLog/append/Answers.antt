use Rattle.std.proofs.Common.{◌≡◌, ◌+◌, sym, ap, ◌∙◌, arith, rules}
use Rattle.std.specs.Prelude.{Err}
use Rattle.oplog.specs.Changes.{appended}
use Rattle.oplog.specs.Faults.{stays_open}
use Rattle.protocol.specs.LogSizes.{payload_size}
use Rattle.operation_log.proofs.Growth.{record_push}
use Rattle.stored_log.proofs.Keeping.{append_failed, area_taken, still_kept}
use Rattle.stored_log.specs.Faults.{fault_of}
use Rattle.stored_log.proofs.Causes.{device_closes, log_cause}
use Rattle.stored_log.proofs.disk_log.DiskLogOperationLog.append.Goals as goal

pub invariant_of-self : goal.invariant_of-self
invariant_of-self g c =
    let was = c.self.inside in
    let area = was.log.area in
    let now_is : c.append.new.self.area ≡ appended area c.args.entry.now = search rules in
    let used : c.in-Some.used ≡ was.used + (5 + payload_size c.args.entry.now) = search rules in (
      still_kept g.D.Disk.may_leave c.append.new.self was.standing c.in-Open.is (c.append.ensures.open ∙ ap stays_open c.in-Ok.is),
      area_taken c.in-Some.used (appended area c.args.entry.now) c.append.new.self.area now_is
          (used ∙ record_push was.used area.items area.records c.args.entry.now c.self.invariant.1.0, c.in-Some.ensures.small),
      c.self.invariant.2,
      (c.self.invariant.3.0, c.append.ensures.size ∙ c.self.invariant.3.1),
      tt,
    )

pub invariant_of-self-in_default-fault : goal.invariant_of-self-in_default-fault
invariant_of-self-in_default-fault g c =
    let was = c.self.inside in
    let opened = (rw c.in-Err.is at c.append.ensures.open) ∙ device_closes c.in-Err.fault c.in_default-fault.not-Device in (
      still_kept g.D.Disk.may_leave c.append.new.self was.standing c.in-Open.is opened,
      area_taken was.used was.log.area c.append.new.self.area c.in-Err.ensures.err c.self.invariant.1,
      c.self.invariant.2,
      (c.self.invariant.3.0, c.append.ensures.size ∙ c.self.invariant.3.1),
      tt,
    )

pub invariant_of-self-in-Device : goal.invariant_of-self-in-Device
invariant_of-self-in-Device g c =
    let was = c.self.inside in
    let disk = g.D.Disk in (
      append_failed disk.may_leave disk.moment disk.left_since g.met.D.Disk.counts_now was.log c.append.new.self c.in_ok-record.record c.in-Err.ensures.err c.append.ensures.any_moment,
      area_taken was.used was.log.area c.append.new.self.area c.in-Err.ensures.err c.self.invariant.1,
      c.self.invariant.2,
      (c.self.invariant.3.0, c.append.ensures.size ∙ c.self.invariant.3.1),
      tt,
    )

pub returns-in-Device-clause-cause : goal.returns-in-Device-clause-cause
returns-in-Device-clause-cause g c = rw (← c.self.view_is) (log_cause _ _ _ c.in-Err.fault _ (sym (ap fault_of c.in-Device.is)) c.in-Err.ensures.cause)
