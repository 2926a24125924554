use Rattle.std.proofs.Common.{◌≡◌, ◌++◌, map, take}
use Rattle.protocol.specs.ServerWrites.{forward_to}
use Rattle.server_handlers.proofs.server.Server.forwards.Given as goal

abbrev pub invariant-loop-member : goal.invariant-loop-member
invariant-loop-member g l =
    l.effects ≡ record l.fn.effects { sent = l.fn.effects.sent ++ map (forward_to l.self.state.id l.handle.0 l.version.0 l.serial.0 l.id l.chunk l.change) (take l.member-index l.member-items) }
