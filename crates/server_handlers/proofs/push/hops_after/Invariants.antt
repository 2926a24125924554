use Rattle.std.proofs.Common.{◌≡◌, take}
use Rattle.protocol.specs.PushBuffer.{hops_after}
use Rattle.server_handlers.proofs.push.hops_after.Given as goal

abbrev pub invariant-loop-server : goal.invariant-loop-server
invariant-loop-server l = l.after.items ≡ hops_after (take l.server-index l.server-items) l.next.0
