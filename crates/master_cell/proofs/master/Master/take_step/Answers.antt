use Rattle.std.proofs.Common.{subst}
use Rattle.std.specs.Option.{option_copied}
use Rattle.protocol.specs.Conforms.{MasterSteps}
use Rattle.protocol.specs.Causes.{IsDownFor}
use Rattle.master_cell.specs.Inputs.{input_of}
use Rattle.master_cell.specs.Shown.{shown_in}
use Rattle.master_cell.specs.Standing.{LoggedMasterState}
use Rattle.master_cell.proofs.Files.{shown_open}
use Rattle.master_cell.proofs.master.Master.take_step.Goals as goal

pub invariant_of-self : goal.invariant_of-self
invariant_of-self g c = shown_open c.step.new.self.state (shown_in c.step.new.shown) (shown_in c.self.inside.files) c.step.ensures.files

pub returns-clause-steps : goal.returns-clause-steps
returns-clause-steps g c =
    subst (λ (m : LoggedMasterState). MasterSteps m.state c.args.now.0 (input_of (option_copied c.args.message)) c.step.result.out c.step.result.seen c.step.new.self.state) c.self.view_is c.step.ensures.steps

pub returns-clause-cause : goal.returns-clause-cause
returns-clause-cause g c =
    subst (λ (m : LoggedMasterState). IsDownFor c.step.result.out.down c.step.result.cause m.failed c.step.new.self.failed) c.self.view_is c.step.ensures.cause
