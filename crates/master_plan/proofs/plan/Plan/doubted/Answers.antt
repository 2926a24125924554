use Rattle.std.proofs.Common.{◌≤◌, subst, IfSome, Option, ℕ, arith}
use Rattle.std.proofs.lemmas.Bool.Decides.{nat_tests}
use Rattle.master_plan.specs.Plans.{PlanState, known}
use Rattle.master_plan.specs.Watched.{IsWhole, IsWholeAt}
use Rattle.master_plan.proofs.StillWhole.{still_whole}
use Rattle.master_plan.proofs.plan.Plan.doubted.Goals as goal

pub returns-in-Some : goal.returns-in-Some
returns-in-Some g c =
    let i = c.self.inside in
    let before : i.clock ≤ c.in-Some.until = grind (arith, nat_tests) in
    let then_ : IsWholeAt i.config i.server_count i.state i.holders i.reported i.doubted c.in-Some.until =
    subst (λ (o : Option ℕ). IfSome o (IsWholeAt i.config i.server_count i.state i.holders i.reported i.doubted)) c.in-Some.is c.self.invariant.1.0 in
    subst (λ (p : PlanState). IsWhole (known p) i.doubted) c.self.view_is
    (still_whole i.config i.server_count i.state i.holders i.reported i.doubted c.in-Some.until i.clock before then_)
