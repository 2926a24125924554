use Rattle.cell_seats.proofs.RegisteredNodes.{writes_all}
use Rattle.cell_seats.proofs.node_registry.NodeRegistry.reclaim.Goals as goal

pub reclaim-requires-clause-all : goal.reclaim-requires-clause-all
reclaim-requires-clause-all g c =
    let d = c.args.self in
    writes_all d.config d.servers d.registered d.writer.me d.registers c.requires.first
