use Rattle.cell_seats.proofs.Starting.{client_at}
use Rattle.running_nodes.proofs.client_places.client_journal.Goals as goal

pub next-requires-clause-node : goal.next-requires-clause-node
next-requires-clause-node c = client_at c.args.registry.now.servers c.args.registry.now.registered c.args.id c.requires.next.0 c.requires.next.1
