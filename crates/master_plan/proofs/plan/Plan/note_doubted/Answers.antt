use Rattle.std.proofs.Common.{sym, subst}
use Rattle.master_plan.specs.Plans.{PlanState, known}
use Rattle.master_plan.specs.Watched.{AllStay, IsWhole}
use Rattle.master_plan.proofs.StillWhole.{whole_found}
use Rattle.master_plan.proofs.plan.Plan.note_doubted.Goals as goal

pub invariant_of-self : goal.invariant_of-self
invariant_of-self g c =
    let i = c.self.inside in
    let until = c.last_all_present-until.result in
    let stay = subst (λ (p : PlanState). AllStay (known p) until) (sym c.self.view_is) (c.all_stay.ensures c.if-all_stay.true) in
    let found = subst (λ (p : PlanState). IsWhole (known p) c.args.doubted) (sym c.self.view_is) c.requires in
    (c.self.invariant.0, (whole_found i.config i.server_count i.state i.holders i.reported c.args.doubted i.clock until stay found, c.self.invariant.1.1))
