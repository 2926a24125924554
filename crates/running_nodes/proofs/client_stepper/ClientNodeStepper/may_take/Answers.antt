use Rattle.running_nodes.proofs.Stepping.{client_takes, client_restarts, client_calls}
use Rattle.running_nodes.proofs.client_stepper.ClientNodeStepper.may_take.Goals as goal

pub returns-in-Calls : goal.returns-in-Calls
returns-in-Calls c = λ s stands. client_calls c.args.self.now.client s c.args.cause.now _ c.may_call.result stands c.in-Calls.is c.may_call.ensures

pub returns-in-Takes : goal.returns-in-Takes
returns-in-Takes c = λ s stands. client_takes c.args.self.now.client s c.args.cause.now _ c.is_up.result stands c.in-Takes.is c.is_up.ensures

pub returns-in-Restarts : goal.returns-in-Restarts
returns-in-Restarts c = λ s stands. client_restarts c.args.self.now.client s c.args.cause.now stands c.in-Restarts.is
