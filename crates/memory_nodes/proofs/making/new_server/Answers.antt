use Rattle.replica_store.specs.Replicas.{new_server_disk}
use Rattle.memory_nodes.proofs.NewDisks.{holds_none}
use Rattle.memory_nodes.proofs.making.new_server.Goals as goal

pub open-requires-clause-holds : goal.open-requires-clause-holds
open-requires-clause-holds c = (
  new_server_disk c.args.config.chunk c.args.config.block c.args.config.slots,
  holds_none c.args.config.chunk c.args.config.block c.args.config.slots c.disk_size.result c.in-Ok.disk c.in-Ok.ensures,
)

pub returns-clause-new : goal.returns-clause-new
returns-clause-new c =
    c.in-Ok-open.ensures (new_server_disk c.args.config.chunk c.args.config.block c.args.config.slots) (holds_none c.args.config.chunk c.args.config.block c.args.config.slots c.disk_size.result c.in-Ok.disk c.in-Ok.ensures)
