use Rattle.running_nodes.proofs.Stepping.{server_takes, server_restarts, server_calls}
use Rattle.running_nodes.proofs.running_server.RunningServerStepper.may_take.Goals as goal

pub returns-in-Takes : goal.returns-in-Takes
returns-in-Takes c = λ s stands. server_takes c.args.self.now.server s c.args.cause.now _ c.is_up.result stands c.in-Takes.is c.is_up.ensures

pub returns-in-Restarts : goal.returns-in-Restarts
returns-in-Restarts c = λ s stands. server_restarts c.args.self.now.server s c.args.cause.now stands c.in-Restarts.is

pub returns-in-Calls : goal.returns-in-Calls
returns-in-Calls c = λ s stands. server_calls c.args.self.now.server s c.args.cause.now _ stands c.in-Calls.is
