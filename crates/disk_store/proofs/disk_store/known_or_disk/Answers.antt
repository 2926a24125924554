use Rattle.std.proofs.Common.{sym, subst}
use Rattle.disk_store.specs.Standing.{IsKept}
use Rattle.disk_store.specs.declared.standing.DiskStoreState.TheVariants.{Open}
use Rattle.disk_store.proofs.Quiet.{opened_kept}
use Rattle.disk_store.proofs.Said.{says_one}
use Rattle.disk_store.proofs.disk_store.known_or_disk.Goals as goal

pub invariant_of-result : goal.invariant_of-result
invariant_of-result g c =
    let disk = g.D.Disk in
    let some = c.requires.kept in
    let kept = opened_kept disk.seen disk.may_leave c.args.store c.in-Ok.known.order c.in-Ok.known.rows some.0 (c.in-Ok.ensures some.0 some.1) some.1 in
    (subst (λ e. IsKept disk.seen disk.may_leave c.args.store c.in-Ok.known.order c.in-Ok.known.rows e Open) (says_one disk.seen disk.may_leave c.args.store some.0 some.1) kept, tt)

pub returns-in-Ok-clause-opened : goal.returns-in-Ok-clause-opened
returns-in-Ok-clause-opened g c d is = sym (says_one g.D.Disk.seen g.D.Disk.may_leave c.args.store d is)
