use Rattle.std.proofs.Common.{◌≡◌, map, take}
use Rattle.protocol.specs.Sending.{server_id}
use Rattle.server_handlers.proofs.push.server_ids.Given as goal

abbrev pub invariant-loop-server : goal.invariant-loop-server
invariant-loop-server l = l.ids.items ≡ map server_id (take l.server-index l.servers)
