use Rattle.std.proofs.Common.{ℕ, length, sym, subst}
use Rattle.cell_journal.specs.WholeHistories.{whole_of}
use Rattle.cell_run.specs.Parked.{ParkedState}
use Rattle.cell_nodes.specs.Nodes.{AreNodesOf}
use Rattle.cell_run.proofs.parked.ParkedParts.nodes.Goals as goal

pub returns : goal.returns
returns c =
    let i = c.self.inside in
    let j = i.journal.now in
    subst (λ (p : ParkedState). AreNodesOf p.journal.cell p.journal.cell.servers (length (whole_of p.journal)) i.nodes) c.self.view_is
    (subst (λ (n : ℕ). AreNodesOf j.cell n (length (whole_of j)) i.nodes) (sym c.self.invariant.servers_are) c.self.invariant.nodes_are)
