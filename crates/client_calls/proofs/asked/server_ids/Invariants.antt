use Rattle.std.proofs.Common.{◌≡◌, map, take}
use Rattle.protocol.specs.Sending.{server_id}
use Rattle.client_calls.proofs.asked.server_ids.Given as goal

abbrev pub invariant-loop-number : goal.invariant-loop-number
invariant-loop-number l = l.servers.items ≡ map server_id (take l.number-index l.numbers)
