use Rattle.std.proofs.Common.{◌≡◌, ◌++◌, Option, None, sym, subst, ◌∙◌, arith}
use Rattle.std.specs.Prelude.{slice_get}
use Rattle.std.proofs.lemmas.Option.{slice_get_past}
use Rattle.oplog.specs.declared.walk.Walk.{Walk}
use Rattle.operation_log.proofs.Growth.{count_is, count_within}
use Rattle.stored_log.specs.Kept.{all_entries, DiskLogState, IsKept, KeepsWalk}
use Rattle.stored_log.proofs.Keeping.{area_taken, still_kept}
use Rattle.stored_log.proofs.Causes.{closed_cause, passed_cause}
use Rattle.stored_log.proofs.disk_log.DiskLogOperationLog.entry.Goals as goal

pub overflow_add-count : goal.overflow_add-count
overflow_add-count g c =
    let was = c.self.inside in
    omega (arith, count_within was.log.area.items was.log.area.records, c.self.invariant.1.0, c.self.invariant.1.1)

pub overflow_add-place : goal.overflow_add-place
overflow_add-place g c =
    let was = c.self.inside in
    omega (arith, count_within was.log.area.items was.log.area.records, c.self.invariant.1.0, c.self.invariant.1.1)

pub returns-then-place-count-clause-value : goal.returns-then-place-count-clause-value
returns-then-place-count-clause-value g c =
    let was = c.self.inside in
    let none = slice_get_past (all_entries was.log) c.args.place (omega (arith, count_is was.log.area.items was.log.area.records)) in
    subst (λ (s : DiskLogState). None ≡ slice_get (s.disk.items ++ s.disk.records) c.args.place) c.self.view_is (sym none)

pub entry_at-requires-clause-open : goal.entry_at-requires-clause-open
entry_at-requires-clause-open g c =
    let was = c.self.inside in
    subst (IsKept g.D.Disk.may_leave was.log) c.in-Open.is c.self.invariant.0

pub entry_at-requires-clause-walk : goal.entry_at-requires-clause-walk
entry_at-requires-clause-walk g c =
    let was = c.self.inside in
    subst (λ (w : Option Walk). KeepsWalk (all_entries was.log) w) (sym c.take-walk.ensures.value) c.self.invariant.4

pub entry_at-requires-clause-there : goal.entry_at-requires-clause-there
entry_at-requires-clause-there g c =
    let was = c.self.inside in
    omega (arith, count_is was.log.area.items was.log.area.records)

pub invariant_of-self : goal.invariant_of-self
invariant_of-self g c =
    let was = c.self.inside in
    let same = c.entry_at.ensures.same in
    let is_open = subst (IsKept g.D.Disk.may_leave was.log) c.in-Open.is c.self.invariant.0 in (
      still_kept g.D.Disk.may_leave c.entry_at.new.log was.standing c.in-Open.is (same.is_open ∙ is_open),
      area_taken was.used was.log.area c.entry_at.new.log.area same.area c.self.invariant.1,
      c.self.invariant.2,
      (c.self.invariant.3.0, same.size ∙ c.self.invariant.3.1),
      subst (λ (w : Option Walk). KeepsWalk (all_entries c.entry_at.new.log) w) (sym c.take-walk.ensures.after) tt,
    )

pub invariant_of-self-2 : goal.invariant_of-self-2
invariant_of-self-2 g c =
    let was = c.self.inside in
    let same = c.entry_at.ensures.same in
    let is_open = subst (IsKept g.D.Disk.may_leave was.log) c.in-Open.is c.self.invariant.0 in (
      still_kept g.D.Disk.may_leave c.entry_at.new.log was.standing c.in-Open.is (same.is_open ∙ is_open),
      area_taken was.used was.log.area c.entry_at.new.log.area same.area c.self.invariant.1,
      c.self.invariant.2,
      (c.self.invariant.3.0, same.size ∙ c.self.invariant.3.1),
      c.if_more.ensures (all_entries c.entry_at.new.log) (rw same.area c.in_ok-entry.ensures.walk),
    )

pub returns-clause-value : goal.returns-clause-value
returns-clause-value g c =
    subst (λ (s : DiskLogState). c.in_ok-entry.entry ≡ slice_get (s.disk.items ++ s.disk.records) c.args.place) c.self.view_is c.in_ok-entry.ensures.entry

pub returns-in_default-clause-cause : goal.returns-in_default-clause-cause
returns-in_default-clause-cause g c = rw (← c.self.view_is) (closed_cause c.self.inside.standing _ c.in_default.not-Open)

pub returns-in_err-entry-clause-cause : goal.returns-in_err-entry-clause-cause
returns-in_err-entry-clause-cause g c = rw (← c.self.view_is) (passed_cause _ _ _ c.from_residual.result c.in_err-entry.field-0.0 c.from_residual.ensures.1 c.in_err-entry.ensures.cause)
