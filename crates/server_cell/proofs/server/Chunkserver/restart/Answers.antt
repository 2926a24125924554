use Rattle.std.proofs.Common.{subst}
use Rattle.server_handlers.specs.Standing.{HeldServerState}
use Rattle.protocol.specs.Conforms.{ServerRestarts}
use Rattle.server_cell.proofs.Steps.{stays_down_so, restarts_so}
use Rattle.server_cell.proofs.server.Chunkserver.restart.Goals as goal

pub returns-in-Err : goal.returns-in-Err
returns-in-Err g c =
    subst (λ (s : HeldServerState). ServerRestarts s.state c.args.now.0 c.down_output.result c.stop.new.self.state) c.self.view_is
    (stays_down_so c.self.inside.server.state c.reopen.new.self.state c.args.now.0 c.down_output.result c.stop.new.self.state c.down_output.ensures c.in-Err.ensures.err c.stop.ensures)

pub returns-in-Ok : goal.returns-in-Ok
returns-in-Ok g c =
    subst (λ (s : HeldServerState). ServerRestarts s.state c.args.now.0 c.no_output.result c.start.new.self.state) c.self.view_is
    (restarts_so c.self.inside.server.state c.reopen.new.self.state c.args.now.0 c.no_output.result c.start.new.self.state c.no_output.ensures
    c.in-Ok.ensures.found c.in-Ok.ensures.config c.in-Ok.ensures.id c.start.ensures)
