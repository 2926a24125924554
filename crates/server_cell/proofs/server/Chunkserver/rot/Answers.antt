use Rattle.std.proofs.Common.{subst}
use Rattle.server_handlers.specs.Standing.{HeldServerState}
use Rattle.protocol.specs.Conforms.{ServerRots}
use Rattle.server_cell.proofs.Rotting.{none_rots, one_rots}
use Rattle.server_cell.proofs.server.Chunkserver.rot.Goals as goal

pub returns-in-None : goal.returns-in-None
returns-in-None g c =
    subst (λ (s : HeldServerState). ServerRots s.state c.args.handle.0 c.args.place c.args.byte s.state) c.self.view_is
    (none_rots c.self.inside.server.state c.args.handle.0 c.args.place c.args.byte c.in-None.ensures)

pub returns-in-Some : goal.returns-in-Some
returns-in-Some g c =
    subst (λ (s : HeldServerState). ServerRots s.state c.args.handle.0 c.args.place c.args.byte c.rots.new.server.state) c.self.view_is
    (one_rots c.self.inside.server.state c.rots.new.server.state c.args.handle.0 c.args.place c.args.byte _ c.in-Some.ensures c.rots.ensures)
