use Rattle.cell_nodes.proofs.Standing.{new_node}
use Rattle.running_nodes.proofs.Standing.{client_led}
use Rattle.cell_run.proofs.client_slot.client_slot.Goals as goal

pub new-requires-2 : goal.new-requires-2
new-requires-2 c = record { led = client_led c.args.registry.now.config c.args.registry.now.servers c.args.id _ _ _ _ c.requires.next.1 c.requires.next.2 c.in_ok-journal.ensures.journal c.requires.unused c.in_ok-client.ensures }

pub returns-clause-slot : goal.returns-clause-slot
returns-clause-slot c = new_node _ _ _ _ _ _ _ c.in_ok-journal.ensures.journal c.requires.unused c.new-2.ensures
