use Rattle.std.proofs.Common.{◌≡◌, ◌≤◌, length, map}
use Rattle.replica_store.specs.Replicas.{new_server_disk}
use Rattle.protocol.specs.Server.{started_server}
use Rattle.protocol.specs.Tables.{first_numbers}
use Rattle.memory_nodes.proofs.making.new_servers.Given as goal

-- so many were made
abbrev pub invariant-loop-before : goal.invariant-loop-before
invariant-loop-before l = record {
  made : l.all.items ≡ map (λ s. started_server l.fn.config s (new_server_disk l.fn.config.chunk l.fn.config.block l.fn.config.slots) 0) (first_numbers l.before);
  count : length l.all.items ≡ l.before;
  most : l.before ≤ l.fn.count;
}
