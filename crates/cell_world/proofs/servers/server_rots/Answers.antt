use Rattle.std.proofs.Common.{refl}
use Rattle.cell_world.proofs.Lost.{at}
use Rattle.cell_world.proofs.servers.server_rots.Goals as goal

pub returns : goal.returns
returns c = record {
  old = c.index_mut.result.now;
  new = c.rot.new.self;
  is_there = at c.args.servers.now.items c.args.index c.index_mut.result.now c.requires.index c.index_mut.ensures.value;
  rots = c.rot.ensures;
  servers_are = refl;
}
