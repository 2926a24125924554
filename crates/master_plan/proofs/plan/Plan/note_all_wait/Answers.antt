use Rattle.std.proofs.Common.{sym, subst}
use Rattle.master_plan.specs.Plans.{PlanState}
use Rattle.master_waiting.specs.Due.{WaitAt}
use Rattle.master_plan.proofs.plan.Plan.note_all_wait.Goals as goal

pub invariant_of-self : goal.invariant_of-self
invariant_of-self g c =
    (c.self.invariant.0, (c.self.invariant.1.0, subst (λ (p : PlanState). WaitAt p.logged p.snapshots c.args.moment) (sym c.self.view_is) c.requires))
