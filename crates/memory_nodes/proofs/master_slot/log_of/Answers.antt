use Rattle.std.proofs.Common.{refl, sym, subst, Option, Some}
use Rattle.master_cell.specs.Standing.{LoggedMasterState}
use Rattle.memory_nodes.specs.MasterSlots.{IsLetGo}
use Rattle.memory_nodes.proofs.master_slot.log_of.Goals as goal

pub returns-in-Some : goal.returns-in-Some
returns-in-Some g c = subst (λ (o : Option LoggedMasterState). IsLetGo o c.args.held (Some c.into_log.result)) (sym c.in-Some.is) (c.into_log.result, refl, c.into_log.ensures.disk, c.into_log.ensures.under_way)

pub returns-in-None : goal.returns-in-None
returns-in-None g c = subst (λ (o : Option LoggedMasterState). IsLetGo o c.args.held c.args.held) (sym c.in-None.is) refl
