use Rattle.running_nodes.specs.Standing.{ClientStands}
use Rattle.running_nodes.proofs.Stepping.{seen_none, client_stepped, client_called, client_never_restarts, copy_on}
use Rattle.running_nodes.proofs.client_stepper.ClientNodeStepper.step.Goals as goal

pub calls-requires : goal.calls-requires
calls-requires c = copy_on c.args.cause.now _ c.args.call c.in-Calls.is c.requires.copy

pub returns-in-Calls-clause-steps : goal.returns-in-Calls-clause-steps
returns-in-Calls-clause-steps c = λ s stands. seen_none s c.args.cause.now c.args.now.0 c.calls.result.out c.calls.result.seen (ClientStands c.calls.new.client) c.calls.ensures.seen
    (client_called c.args.self.now.client c.calls.new.client s c.args.cause.now _ c.args.now.0 c.calls.result.out stands c.in-Calls.is c.calls.ensures.steps)

pub returns-in-Takes-clause-steps : goal.returns-in-Takes-clause-steps
returns-in-Takes-clause-steps c = λ s stands. seen_none s c.args.cause.now c.args.now.0 c.takes.result.out c.takes.result.seen (ClientStands c.takes.new.client) c.takes.ensures.seen
    (client_stepped c.args.self.now.client c.takes.new.client s c.args.cause.now _ c.args.now.0 c.takes.result.out stands c.in-Takes.is c.takes.ensures.steps)

pub returns-in-Restarts-clause-steps : goal.returns-in-Restarts-clause-steps
returns-in-Restarts-clause-steps c = λ s stands. client_never_restarts c.args.self.now.client s c.args.cause.now c.args.now.0 c.stops.result.out c.stops.result.seen (ClientStands c.stops.new.client) stands (c.requires.may s stands) c.in-Restarts.is
