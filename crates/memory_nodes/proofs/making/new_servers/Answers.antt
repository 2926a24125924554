use Rattle.std.proofs.Common.{ℕ, ◌+◌, [], ◌∷◌, ◌++◌, length, length-append, ap, ◌∙◌, arith}
use Rattle.replica_store.specs.Replicas.{new_server_disk}
use Rattle.protocol.specs.Server.{ServerState, started_server}
use Rattle.cell_world.proofs.Made.{one_more}
use Rattle.memory_nodes.proofs.making.new_servers.Goals as goal

pub loop-before-preserved : goal.loop-before-preserved
loop-before-preserved c =
    let made : ℕ → ServerState = λ s. started_server c.args.config s (new_server_disk c.args.config.chunk c.args.config.block c.args.config.slots) 0 in
    let all = c.loop-before.all.items in
    record {
      made = one_more made c.loop-before.before all c.push.new.self.items c.loop-before.invariant.made (c.in-Ok.ensures.items ∙ ap (λ (x : ServerState). all ++ x ∷ []) c.in_ok-server.ensures.new);
      count = omega (arith, ap length c.in-Ok.ensures.items, length-append all (c.in_ok-server.server ∷ []), c.loop-before.invariant.count);
      most = omega (arith, c.loop-before-test.true);
    }
