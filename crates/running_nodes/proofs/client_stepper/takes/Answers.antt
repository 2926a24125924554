use Rattle.running_nodes.proofs.Stepping.{stepped_so}
use Rattle.running_nodes.proofs.client_stepper.takes.Goals as goal

pub returns-clause-steps : goal.returns-clause-steps
returns-clause-steps c =
    stepped_so c.args.client.now c.take_step-out.new.self c.with_copy.new.client c.config-config.result c.id-id.result c.args.now.0 c.args.input.now c.take_step-out.result c.with_copy.result.out
    c.config-config.ensures.value c.id-id.ensures c.take_step-out.ensures c.with_copy.ensures.step
