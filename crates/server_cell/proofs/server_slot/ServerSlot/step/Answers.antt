use Rattle.std.proofs.Common.{sym, ap, ◌∙◌, subst}
use Rattle.std.specs.Option.{option_copied}
use Rattle.protocol.specs.Conforms.{ServerSteps}
use Rattle.protocol.specs.Server.{ServerState}
use Rattle.server_cell.specs.Inputs.{input_of}
use Rattle.server_cell.proofs.Slots.{goes_on, held_is, not_held}
use Rattle.server_cell.proofs.Steps.{as_given, stays}
use Rattle.server_cell.proofs.server_slot.ServerSlot.step.Goals as goal

pub invariant_of-self : goal.invariant_of-self
invariant_of-self c = c.self.invariant

pub invariant_of-self-2 : goal.invariant_of-self-2
invariant_of-self-2 c =
    let i = c.self.inside in
    (c.self.invariant.0, goes_on i.config i.id.0 i.server _ c.take_step.new.self.state i.before.items c.in-Some.is c.self.invariant.1 c.take_step.ensures.settings, tt)

pub returns : goal.returns
returns c =
    let i = c.self.inside in
    subst (λ (s : ServerState). ServerSteps s c.args.now.0 (input_of (option_copied c.args.message)) c.take_step.result.out c.take_step.result.seen c.take_step.new.self.state)
    (sym (held_is i.config i.id.0 i.server _ i.before.items c.in-Some.is) ∙ c.self.view_is) c.take_step.ensures.steps

pub returns-in_default : goal.returns-in_default
returns-in_default c =
    let i = c.self.inside in
    let down = ap (λ (s : ServerState). s.up) (sym c.self.view_is) ∙ not_held i.config i.id.0 i.server i.before.items c.in_default.is in
    as_given (stays c.args.self.now c.args.now.0 (input_of (option_copied c.args.message)) down) c.nothing.ensures.out c.nothing.ensures.seen c.self.view_is
