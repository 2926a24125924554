use Rattle.std.proofs.Common.{ℕ, sym, ap, subst, refl, ◌∙◌}
use Rattle.std.specs.Option.{option_copied}
use Rattle.messages.specs.declared.event.StepOut.{StepOut}
use Rattle.protocol.specs.Causes.{IsDownFor}
use Rattle.protocol.proofs.Causes.{counted, down_for, stays_for}
use Rattle.server_handlers.specs.Standing.{HeldServerState}
use Rattle.protocol.specs.Conforms.{ServerSteps}
use Rattle.server_cell.specs.Inputs.{input_of}
use Rattle.server_cell.specs.Settings.{KeepsSettings}
use Rattle.server_cell.proofs.Settings.{framed, given_up_settings, same_settings, then_settings}
use Rattle.server_cell.proofs.Steps.{stays, as_given, gave_up}
use Rattle.server_cell.proofs.server.Chunkserver.step.Goals as goal

pub returns-then-not-is_up-clause-steps : goal.returns-then-not-is_up-clause-steps
returns-then-not-is_up-clause-steps g c =
    subst (λ (s : HeldServerState). ServerSteps s.state c.args.now.0 (input_of (option_copied c.args.message)) c.nothing.result.out c.nothing.result.seen s.state) c.self.view_is
    (as_given (stays c.self.inside.server.state c.args.now.0 (input_of (option_copied c.args.message)) (sym c.is_up.ensures ∙ c.if-not-is_up.true)) c.nothing.ensures.out c.nothing.ensures.seen refl)

pub returns-then-not-is_up-clause-settings : goal.returns-then-not-is_up-clause-settings
returns-then-not-is_up-clause-settings g c = same_settings c.args.self.now.state

pub returns-in-Err-clause-steps : goal.returns-in-Err-clause-steps
returns-in-Err-clause-steps g c =
    subst (λ (s : HeldServerState). ServerSteps s.state c.args.now.0 (input_of (option_copied c.args.message)) c.down_for.result.out c.down_for.result.seen c.stop.new.self.state) c.self.view_is
    (as_given
    (gave_up c.self.inside.server.state c.plan_step.new.server.state c.args.now.0 (input_of (option_copied c.args.message)) (sym c.is_up.ensures ∙ c.if-not-is_up.false) c.in-Err.ensures.frame c.self.invariant)
    c.down_for.ensures.out c.down_for.ensures.seen c.stop.ensures)

pub returns-in-Err-clause-settings : goal.returns-in-Err-clause-settings
returns-in-Err-clause-settings g c =
    subst (λ (s : HeldServerState). KeepsSettings s.state c.stop.new.self.state) c.self.view_is (given_up_settings c.self.inside.server.state c.plan_step.new.server.state c.stop.new.self.state c.in-Err.ensures.frame c.stop.ensures)

pub returns-in-Ok-clause-settings : goal.returns-in-Ok-clause-settings
returns-in-Ok-clause-settings g c =
    subst (λ (s : HeldServerState). KeepsSettings s.state c.ends.new.server.state) c.self.view_is
    (then_settings c.self.inside.server.state c.plan_step.new.server.state c.ends.new.server.state (framed c.self.inside.server.state c.plan_step.new.server.state c.in-Ok.ensures.frame) c.ends.ensures.settings)

-- why it goes down, where it does
pub returns-then-not-is_up-clause-cause : goal.returns-then-not-is_up-clause-cause
returns-then-not-is_up-clause-cause g c = stays_for _ _ c.nothing.result.out c.nothing.result.cause (ap (λ (o : StepOut). o.down) c.nothing.ensures.out) c.nothing.ensures.cause

pub returns-in-Err-clause-cause : goal.returns-in-Err-clause-cause
returns-in-Err-clause-cause g c =
    let d = c.down_for in
    let why = c.cause_since in
    let now = c.stop.new.self.failed in
    subst (λ (s : HeldServerState). IsDownFor d.result.out.down d.result.cause s.failed now) c.self.view_is
    (down_for c.self.inside.server.failed now d.result.out d.result.cause why.result d.ensures.out d.ensures.cause
    (counted why.result c.failures-before.result c.self.inside.server.failed now c.failures-before.ensures why.ensures.device) why.ensures.room)

pub returns-in-Ok-clause-cause : goal.returns-in-Ok-clause-cause
returns-in-Ok-clause-cause g c =
    subst (λ (s : HeldServerState). IsDownFor c.ends.result.out.down c.ends.result.cause s.failed c.ends.new.server.failed) c.self.view_is
    (subst (λ (n : ℕ). IsDownFor c.ends.result.out.down c.ends.result.cause n c.ends.new.server.failed) c.failures-before.ensures c.ends.ensures.cause)
