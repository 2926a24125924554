use Rattle.std.proofs.Common.{◌≡◌, ◌∷◌}
use Rattle.std.specs.Prelude.{map}
use Rattle.std.specs.Arc.{arc_value}
use Rattle.cell_nodes.specs.Nodes.{names_of}
use Rattle.cell_nodes.proofs.node_locks.new_locks.Goals as goal

pub returns : goal.returns
returns c =
    let names : arc_value c.in_ok-master.master ∷ map arc_value c.in_ok-servers.servers.items ≡ names_of c.args.cell.now c.args.servers = (λ j. c.in_ok-master.ensures j ∷ c.in_ok-servers.ensures j) in
    names
