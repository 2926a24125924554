use Rattle.std.proofs.Common.{◌∙◌}
use Rattle.cell_seats.proofs.RegisteredNodes.{next_registered}
use Rattle.cell_seats.proofs.node_registry.NodeRegistry.next.Goals as goal

pub returns-clause-journal : goal.returns-clause-journal
returns-clause-journal c =
    let d = c.args.self.now in
    next_registered d.config d.servers d.registered d.writer.me d.registers c.args.node c.new.result.node
    c.new.result.writer.me c.requires.node c.new.ensures.0 (c.new.ensures.1 ∙ c.next-own.ensures.node.1)
