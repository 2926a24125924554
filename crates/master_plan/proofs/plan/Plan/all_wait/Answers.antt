use Rattle.std.proofs.Common.{◌≡◌, ◌≤◌, true, not, length, sym, ◌∙◌, subst, arith}
use Rattle.std.specs.Prelude.{◌==◌}
use Rattle.std.specs.List.{list_all}
use Rattle.std.proofs.lemmas.Bool.{eqb-true}
use Rattle.std.proofs.lemmas.Bool.Decides.{nat_tests}
use Rattle.protocol.specs.MasterSnapshots.{is_ready}
use Rattle.master_plan.specs.Plans.{PlanState, known}
use Rattle.master_plan.proofs.Waits.{wait_now, none_wait}
use Rattle.master_plan.proofs.plan.Plan.all_wait.Goals as goal

pub returns-in-Some : goal.returns-in-Some
returns-in-Some g c = λ e.
    let i = c.self.inside in
    let until = c.in-Some.until in
    let before : i.clock ≤ until = grind (arith, nat_tests) in
    subst (λ (p : PlanState). list_all (λ s. not (is_ready (known p) s)) p.snapshots ≡ true) c.self.view_is
    (wait_now i.state i.snapshots i.all_wait_until until i.clock c.self.invariant.1.1 c.in-Some.is before)

pub returns-in-None : goal.returns-in-None
returns-in-None g c = λ e.
    let i = c.self.inside in
    let none : length i.snapshots ≡ 0 = eqb-true (length i.snapshots) 0 (sym c.is_empty.ensures ∙ e) in
    subst (λ (p : PlanState). list_all (λ s. not (is_ready (known p) s)) p.snapshots ≡ true) c.self.view_is (none_wait i.state i.snapshots i.clock none)
