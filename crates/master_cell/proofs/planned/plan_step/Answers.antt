use Rattle.std.proofs.Common.{subst}
use Rattle.std.specs.Option.{option_copied}
use Rattle.protocol.specs.MasterStep.{master_does}
use Rattle.master_plan.specs.Plans.{PlanState}
use Rattle.master_names.specs.Doing.{IsPlanned}
use Rattle.master_cell.specs.Inputs.{input_of}
use Rattle.master_cell.proofs.Parts.{goes}
use Rattle.master_cell.proofs.planned.plan_step.Goals as goal

pub returns : goal.returns
returns g c =
    let disk = g.L.OperationLog.disk c.args.log.now in
    let i = input_of (option_copied c.args.message) in
    goes disk c.args.plan.now c.plan_input.new.plan c.takes_ready.new.plan c.args.now.0 i
    (subst (λ (p : PlanState). IsPlanned (λ d. master_does d i) disk p c.plan_input.new.plan) c.begin.ensures c.in_ok-plan_input.ensures) c.in_ok-takes_ready.ensures
