use Rattle.std.proofs.Common.{◌≡◌, ◌≤◌, ◌-◌, ◌*◌, ◌++◌, length}
use Rattle.replica_store.specs.Replicas.{digests_of}
use Rattle.store_disk.proofs.digests.digests_of_blocks.Given as goal

abbrev pub invariant-loop : goal.invariant-loop
invariant-loop l = record {
  so_far : l.digests.items ++ digests_of l.block (l.count - l.counter) l.rest ≡ digests_of l.block l.count l.bytes;
  room : (l.count - l.counter) * l.block ≤ length l.rest;
}
