use Rattle.running_nodes.specs.Standing.{ServerStands}
use Rattle.running_nodes.proofs.Stepping.{seen_none, server_stepped, server_restarted, server_never_calls, server_silent, server_restarts_silently}
use Rattle.running_nodes.proofs.running_server.step_server.Goals as goal

pub returns-in-Takes-clause-steps : goal.returns-in-Takes-clause-steps
returns-in-Takes-clause-steps c = λ s stands. server_stepped c.args.server.now c.step-out.new.self s c.args.cause.now _ _ c.args.now.0 c.step-out.result.out c.step-out.result.seen stands c.in-Takes.is c.message_in.ensures c.step-out.ensures

pub returns-in-Takes-clause-silent : goal.returns-in-Takes-clause-silent
returns-in-Takes-clause-silent c = server_silent c.args.server.now c.step-out.new.self c.args.now.0 _ c.step-out.result.out c.step-out.result.seen c.step-out.ensures

pub returns-in-Restarts-clause-steps : goal.returns-in-Restarts-clause-steps
returns-in-Restarts-clause-steps c = λ s stands. seen_none s c.args.cause.now c.args.now.0 c.restart.result c.empty.result (ServerStands c.restart.new.self) c.empty.ensures
    (server_restarted c.args.server.now c.restart.new.self s c.args.cause.now c.args.now.0 c.restart.result stands c.in-Restarts.is c.restart.ensures)

pub returns-in-Restarts-clause-silent : goal.returns-in-Restarts-clause-silent
returns-in-Restarts-clause-silent c = server_restarts_silently c.args.server.now c.restart.new.self c.args.now.0 c.restart.result c.restart.ensures

pub returns-in-Calls-clause-steps : goal.returns-in-Calls-clause-steps
returns-in-Calls-clause-steps c = λ s stands. server_never_calls c.args.server.now s c.args.cause.now _ c.args.now.0 _ _ _ stands (c.requires.may s stands) c.in-Calls.is
