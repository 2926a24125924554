use Rattle.std.proofs.Common.{◌≡◌, ℕ, List, map, sym, ap, ◌∙◌, arith}
use Rattle.replica_store.specs.Replicas.{new_server_disk}
use Rattle.protocol.specs.MasterStep.{new_master}
use Rattle.protocol.specs.Server.{ServerState, started_server}
use Rattle.protocol.specs.Tables.{first_numbers}
use Rattle.cell_core.proofs.world.World.new.Goals as goal

pub of_nodes-requires-clause-master : goal.of_nodes-requires-clause-master
of_nodes-requires-clause-master g c = c.in_ok-master.ensures.state ∙ ap (new_master c.args.config) (sym c.in_ok-servers.ensures.count)

pub of_nodes-requires-clause-servers : goal.of_nodes-requires-clause-servers
of_nodes-requires-clause-servers g c =
    let made : ℕ → List ServerState = λ n. map (λ s. started_server c.args.config s (new_server_disk c.args.config.chunk c.args.config.block c.args.config.slots) 0) (first_numbers n) in
    c.in_ok-servers.ensures.new ∙ ap made (sym c.in_ok-servers.ensures.count)

pub of_nodes-requires-clause-chunk : goal.of_nodes-requires-clause-chunk
of_nodes-requires-clause-chunk g c = omega (arith, (c.are_fitting.ensures.servers c.if-not-are_fitting.false).least)
