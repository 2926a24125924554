use Rattle.std.proofs.Common.{refl}
use Rattle.std.specs.Prelude.{length}
use Rattle.cell_world.specs.Held.{HeldCell}
use Rattle.cell_world.proofs.Made.{held_new}
use Rattle.cell_world.proofs.cell.CellState.new.Goals as goal

pub returns : goal.returns
returns g c =
    let h : HeldCell = record {
      config = c.args.config;
      master = g.M.CellMaster.state c.args.master;
      files = g.M.CellMaster.files c.args.master;
      servers = c.args.servers.items;
      clients = c.in_ok-clients.clients.items;
      sent = c.new.result.network.messages;
      seen = c.new.result.sights.seen;
      greatest = 0;
    } in
    held_new c.args.config (length c.args.servers.items) c.args.clients h refl c.requires.master c.requires.files c.requires.servers c.in_ok-clients.ensures c.new.ensures.sent c.new.ensures.seen refl
