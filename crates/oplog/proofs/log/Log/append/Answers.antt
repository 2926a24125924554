use Rattle.std.proofs.Common.{◌≡◌, ℕ, [], ◌∷◌, ◌++◌, ap, ◌∙◌, arith}
use Rattle.std.specs.Prelude.{Err}
use Rattle.oplog.specs.Faults.{leaves_open}
use Rattle.oplog.specs.Logs.{area_counted}
use Rattle.oplog.specs.declared.fault.LogFault.TheVariants.{Full}
use Rattle.oplog.proofs.Whole.{state_of}
use Rattle.oplog.proofs.OpenLogs.{counted_after, counted_open, durable_of, few_records, more_records, renumbered, same_log, was_open}
use Rattle.oplog.proofs.log.Log.append.Goals as goal

pub append-requires-clause-is_open : goal.append-requires-clause-is_open
append-requires-clause-is_open g c =
    let was = c.self.inside in
    (area_counted was.volume was.items was.records, c.self.invariant.opened (was_open _ _ c.self.view_is c.requires.open))

pub push-requires : goal.push-requires
push-requires g c =
    let was = c.self.inside in
    let is_open = c.self.invariant.opened (was_open _ _ c.self.view_is c.requires.open) in
    few_records g.D.Disk.seen g.D.Disk.may_leave was.volume (area_counted was.volume was.items was.records) is_open

pub invariant_of-self : goal.invariant_of-self
invariant_of-self g c =
    let was = c.self.inside in
    let disk = g.D.Disk in
    let is_open = c.self.invariant.opened (was_open _ _ c.self.view_is c.requires.open) in
    let done = c.in-Ok.ensures.ok (area_counted was.volume was.items was.records) is_open in
    rw c.push.ensures (counted_open disk.seen disk.may_leave c.append.new.self was.volume.number was.items (was.records ++ c.args.logged.now ∷ []) was.is_open done)

pub invariant_of-self-in-Err : goal.invariant_of-self-in-Err
invariant_of-self-in-Err g c =
    let was = c.self.inside in
    let disk = g.D.Disk in
    let area = area_counted was.volume was.items was.records in
    let is_open = c.self.invariant.opened (was_open _ _ c.self.view_is c.requires.open) in
    counted_after disk.seen disk.may_leave c.append.new.self was.volume.number was.items was.records c.in-Err.fault c.leaves_open-self-inside.result
    (rw c.append.ensures.size c.self.invariant.large) (rw c.append.ensures.size c.self.invariant.small)
    (c.in-Err.ensures.end ∙ c.self.invariant.end) (omega (arith, c.in-Err.ensures.end, c.append.ensures.size, c.self.invariant.within)) c.leaves_open-self-inside.ensures
    (λ full. rw (c.append.ensures.unchanged (c.in-Err.is ∙ ap Err full)) is_open)
    (λ refused. c.append.ensures.still_open area is_open (c.in-Err.is ∙ ap Err refused))
    (λ damaged. c.append.ensures.undamaged (c.in-Err.is ∙ ap Err damaged))

pub returns-in-Ok-clause-ok : goal.returns-in-Ok-clause-ok
returns-in-Ok-clause-ok g c =
    let was = c.self.inside in
    rw (← c.self.view_is) (more_records was.volume.number c.append.new.self.number was.items was.records c.push.new.self c.args.logged.now c.append.ensures.number c.push.ensures)

pub returns-in-Ok-clause-durable : goal.returns-in-Ok-clause-durable
returns-in-Ok-clause-durable g c =
    let was = c.self.inside in
    let disk = g.D.Disk in
    let is_open = c.self.invariant.opened (was_open _ _ c.self.view_is c.requires.open) in
    let done = c.in-Ok.ensures.ok (area_counted was.volume was.items was.records) is_open in
    let volume = c.append.new.self in
    let records = was.records ++ c.args.logged.now ∷ [] in
    rw c.push.ensures (durable_of disk.seen disk.may_leave volume (area_counted volume was.items records) was.is_open
    (renumbered disk.seen disk.may_leave volume was.volume.number was.items records done))

pub returns-in-Ok-clause-open : goal.returns-in-Ok-clause-open
returns-in-Ok-clause-open g c = was_open _ _ c.self.view_is c.requires.open

pub returns-in-Ok-clause-any_moment : goal.returns-in-Ok-clause-any_moment
returns-in-Ok-clause-any_moment g c =
    let was = c.self.inside in
    let is_open = c.self.invariant.opened (was_open _ _ c.self.view_is c.requires.open) in
    rw (← c.self.view_is) (c.append.ensures.any_moment (area_counted was.volume was.items was.records) is_open)

pub returns-in-Err-clause-any_moment : goal.returns-in-Err-clause-any_moment
returns-in-Err-clause-any_moment g c =
    let was = c.self.inside in
    let is_open = c.self.invariant.opened (was_open _ _ c.self.view_is c.requires.open) in
    rw (← c.self.view_is) (c.append.ensures.any_moment (area_counted was.volume was.items was.records) is_open)

pub returns-in-Ok-clause-full : goal.returns-in-Ok-clause-full
returns-in-Ok-clause-full g c =
    let was = c.self.inside in
    let is_open = c.self.invariant.opened (was_open _ _ c.self.view_is c.requires.open) in
    rw (← c.self.view_is) (rw c.in-Ok.is at (c.append.ensures.full (area_counted was.volume was.items was.records) is_open))

pub returns-in-Err-clause-full : goal.returns-in-Err-clause-full
returns-in-Err-clause-full g c =
    let was = c.self.inside in
    let is_open = c.self.invariant.opened (was_open _ _ c.self.view_is c.requires.open) in
    rw (← c.self.view_is) (rw c.in-Err.is at (c.append.ensures.full (area_counted was.volume was.items was.records) is_open))

pub returns-in-Err-clause-err : goal.returns-in-Err-clause-err
returns-in-Err-clause-err g c =
    let was = c.self.inside in
    rw (← c.self.view_is) (ap (λ (n : ℕ). state_of n was.items was.records) c.append.ensures.number)

pub returns-in-Ok-clause-size : goal.returns-in-Ok-clause-size
returns-in-Ok-clause-size g c = rw (← c.self.view_is) c.append.ensures.size

pub returns-in-Err-clause-size : goal.returns-in-Err-clause-size
returns-in-Err-clause-size g c = rw (← c.self.view_is) c.append.ensures.size

pub returns-in-Err-clause-unchanged : goal.returns-in-Err-clause-unchanged
returns-in-Err-clause-unchanged g c full =
    let was = c.self.inside in
    let fault : c.in-Err.fault ≡ Full = cc in
    rw (← c.self.view_is) (same_log was.volume c.append.new.self was.items was.records was.is_open c.leaves_open-self-inside.result (c.append.ensures.unchanged (c.in-Err.is ∙ full))
    (was_open _ _ c.self.view_is c.requires.open) (c.leaves_open-self-inside.ensures ∙ ap leaves_open fault))

pub returns-in-Ok-clause-cause : goal.returns-in-Ok-clause-cause
returns-in-Ok-clause-cause g c = rw (← c.self.view_is) (rw c.in-Ok.is at c.append.ensures.cause)

pub returns-in-Err-clause-cause : goal.returns-in-Err-clause-cause
returns-in-Err-clause-cause g c = rw (← c.self.view_is) (rw c.in-Err.is at c.append.ensures.cause)

pub returns-in-Ok-clause-read : goal.returns-in-Ok-clause-read
returns-in-Ok-clause-read g c =
    let was = c.self.inside in
    let is_open = c.self.invariant.opened (was_open _ _ c.self.view_is c.requires.open) in
    rw (← c.self.view_is) (c.append.ensures.read (area_counted was.volume was.items was.records) is_open)

pub returns-in-Err-clause-read : goal.returns-in-Err-clause-read
returns-in-Err-clause-read g c =
    let was = c.self.inside in
    let is_open = c.self.invariant.opened (was_open _ _ c.self.view_is c.requires.open) in
    rw (← c.self.view_is) (c.append.ensures.read (area_counted was.volume was.items was.records) is_open)
