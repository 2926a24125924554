use Rattle.cell_seats.proofs.Starting.{server_at}
use Rattle.cell_nodes.proofs.Standing.{server_led, new_node}
use Rattle.cell_nodes.proofs.node_slots.server_slot.Goals as goal

pub next-requires-clause-node : goal.next-requires-clause-node
next-requires-clause-node c = server_at c.args.registry.now.servers c.args.registry.now.registered c.args.id c.requires.next.0 c.requires.next.1 c.requires.next.2

pub running_server-requires : goal.running_server-requires
running_server-requires c = c.requires.fits.servers

pub new-requires : goal.new-requires
new-requires c = record { led = server_led c.args.registry.now.config c.args.registry.now.servers c.args.id _ _ _ _ c.requires.next.1 c.requires.next.2 c.in_ok-journal.ensures.journal c.requires.unused c.in_ok-server.ensures }

pub returns-clause-slot : goal.returns-clause-slot
returns-clause-slot c = new_node _ _ _ _ _ _ _ c.in_ok-journal.ensures.journal c.requires.unused c.new.ensures
