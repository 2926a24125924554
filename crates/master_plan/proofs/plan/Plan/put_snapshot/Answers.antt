use Rattle.std.proofs.Common.{◌≡◌, true, false, sym, subst}
use Rattle.std.specs.List.{list_all, list_any}
use Rattle.name_locks.specs.Locks.{sets_clash}
use Rattle.master_waiting.specs.CallLocks.{has_paths, locks_of_snapshot}
use Rattle.master_plan.specs.Plans.{PlanState, known}
use Rattle.master_waiting.proofs.Clashes.{none_clashes}
use Rattle.master_plan.proofs.plan.Plan.put_snapshot.Goals as goal

pub push-requires : goal.push-requires
push-requires g c =
    let s = c.args.snapshot in
    let paths = subst (λ (p : PlanState). list_all has_paths p.snapshots ≡ true) c.self.view_is c.have_paths.ensures in
    subst (λ (p : PlanState). list_any (λ o. sets_clash (locks_of_snapshot o) (locks_of_snapshot s)) p.snapshots ≡ false) (sym c.self.view_is)
    (none_clashes (known c.args.self.now) s paths c.has_paths.ensures c.requires)
