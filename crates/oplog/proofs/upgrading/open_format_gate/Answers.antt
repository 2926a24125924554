use Rattle.std.proofs.Common.{sym, subst}
use Rattle.disk.specs.Device.{ChangesOnly}
use Rattle.disk_redo.proofs.Moments.{started, goes_on, same_changes, torn}
use Rattle.oplog.proofs.upgrading.open_format_gate.Goals as goal

pub returns-in_err-write_at-clause-any_moment : goal.returns-in_err-write_at-clause-any_moment
returns-in_err-write_at-clause-any_moment g c =
    let d = c.args.disk.now in
    let seen = g.D.Disk.seen d in
    let P = ChangesOnly 5 1 seen in
    let first = started g.D.Disk.moment g.D.Disk.left_since d P (λ f left. subst P (sym (c.requires.durable f (g.met.D.Disk.only_now d f left))) (same_changes 5 1 seen)) in
    goes_on g.D.Disk.moment g.D.Disk.left_since d d c.write_at.new.self P _ first c.write_at.ensures.time (torn 5 1 seen _ _ c.requires.durable c.write_at.ensures.crash)

pub returns-clause-any_moment : goal.returns-clause-any_moment
returns-clause-any_moment g c =
    let d = c.args.disk.now in
    let seen = g.D.Disk.seen d in
    let P = ChangesOnly 5 1 seen in
    let first = started g.D.Disk.moment g.D.Disk.left_since d P (λ f left. subst P (sym (c.requires.durable f (g.met.D.Disk.only_now d f left))) (same_changes 5 1 seen)) in
    let left = torn 5 1 seen _ _ c.requires.durable c.write_at.ensures.crash in
    let then = goes_on g.D.Disk.moment g.D.Disk.left_since d d c.write_at.new.self P _ first c.write_at.ensures.time left in
    goes_on g.D.Disk.moment g.D.Disk.left_since d c.write_at.new.self c.sync.new.self P _ then c.sync.ensures.time (λ f now. left f (c.sync.ensures.crash f now))

pub returns-clause-read : goal.returns-clause-read
returns-clause-read g c = subst (λ b. ChangesOnly 5 1 (g.D.Disk.seen c.args.disk.now) b) (sym c.sync.ensures.seen) c.write_at.ensures.elsewhere
