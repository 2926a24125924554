use Rattle.std.proofs.Common.{subst}
use Rattle.std.specs.Option.{option_copied}
use Rattle.messages.specs.declared.event.NodeInput.{NodeInput}
use Rattle.server_cell.specs.Inputs.{input_of}
use Rattle.protocol.specs.Conforms.{ClientSteps}
use Rattle.cell_world.proofs.Lost.{client_gave_up}
use Rattle.cell_world.proofs.clients.steps_on.Goals as goal

pub returns-in_default : goal.returns-in_default
returns-in_default c =
    client_gave_up c.args.client.now c.give_up.new.client c.args.now.0 (input_of (option_copied c.args.message)) c.give_up.result c.lost.result c.give_up.ensures.down c.lost.ensures c.give_up.ensures.client

pub returns : goal.returns
returns c = subst (λ (i : NodeInput). ClientSteps c.args.client.now c.args.now.0 i c.step.result c.step.new.self) c.in-Ok.ensures c.step.ensures
