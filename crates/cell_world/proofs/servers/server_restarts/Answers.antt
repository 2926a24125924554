use Rattle.std.proofs.Common.{refl}
use Rattle.cell_world.proofs.Lost.{at}
use Rattle.cell_world.proofs.servers.server_restarts.Goals as goal

pub returns : goal.returns
returns c = record {
  old = c.index_mut.result.now;
  new = c.restart.new.self;
  is_there = at c.args.servers.now.items c.args.place c.index_mut.result.now c.requires.place c.index_mut.ensures.value;
  restarts = c.restart.ensures;
  servers_are = refl;
}
