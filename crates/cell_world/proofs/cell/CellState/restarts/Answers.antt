use Rattle.cell_world.proofs.Moved.{client_restarts, restarts_at}
use Rattle.cell_world.proofs.cell.CellState.restarts.Goals as goal

pub returns-in-Master : goal.returns-in-Master
returns-in-Master g c = restarts_at _ _ _ _ c.args.now.0 _ c.in-Master.is c.master_restarts.ensures

pub returns-in-Server : goal.returns-in-Server
returns-in-Server g c = restarts_at _ _ _ _ c.args.now.0 _ c.in-Server.is c.server_restarts.ensures

pub returns-in-Client : goal.returns-in-Client
returns-in-Client g c = client_restarts _ _ c.in-Client.field-0 c.args.now.0 c.in-Client.is
