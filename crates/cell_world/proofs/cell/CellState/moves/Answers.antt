use Rattle.cell_world.proofs.Moved.{moves_at}
use Rattle.cell_world.proofs.cell.CellState.moves.Goals as goal

pub returns-in-Master : goal.returns-in-Master
returns-in-Master g c = moves_at _ _ _ _ c.args.now.0 _ _ c.in-Master.is c.master_moves.ensures

pub returns-in-Server : goal.returns-in-Server
returns-in-Server g c = moves_at _ _ _ _ c.args.now.0 _ _ c.in-Server.is c.server_moves.ensures

pub returns-in-Client : goal.returns-in-Client
returns-in-Client g c = moves_at _ _ _ _ c.args.now.0 _ _ c.in-Client.is c.client_moves.ensures
