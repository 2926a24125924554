use Rattle.std.proofs.Common.{sym}
use Rattle.tests_stores.proofs.stopped_store.taken.Goals as goal

pub returns-clause-store : goal.returns-clause-store
returns-clause-store c = record {
  disk = c.args.store.disk;
  under_way = c.args.store.under_way;
  chunk_is = sym c.layout-layout.ensures.chunk;
  block_is = sym c.layout-layout.ensures.block;
  slots_is = sym c.layout-layout.ensures.slots;
  leaves = c.into_disk.ensures.left;
}
