use Rattle.cell_seats.proofs.Starting.{master_at}
use Rattle.cell_nodes.proofs.Standing.{master_led, new_node}
use Rattle.cell_nodes.proofs.node_slots.master_slot.Goals as goal

pub next-requires-clause-node : goal.next-requires-clause-node
next-requires-clause-node c = master_at c.args.registry.now.servers c.args.registry.now.registered c.requires.first

pub new-requires-2 : goal.new-requires-2
new-requires-2 c = record { led = master_led c.args.registry.now.config c.args.registry.now.servers _ _ _ _ c.in_ok-journal.ensures.journal c.requires.unused c.in_ok-master.ensures }

pub returns-clause-slot : goal.returns-clause-slot
returns-clause-slot c = new_node _ _ _ _ _ _ _ c.in_ok-journal.ensures.journal c.requires.unused c.new-2.ensures
