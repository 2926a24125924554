use Rattle.replica_store.specs.declared.change.StoreChange.TheVariants.{Rot}
use Rattle.server_cell.proofs.Rotting.{went, failed}
use Rattle.server_cell.proofs.rotten.rots.Goals as goal

pub returns-in-Ok : goal.returns-in-Ok
returns-in-Ok g c = went c.args.server.now.state c.rot.new.self.state (Rot c.args.handle c.args.place c.args.byte) c.in-Ok.ensures.ok

pub returns-in-Err : goal.returns-in-Err
returns-in-Err g c = failed c.args.server.now.state c.rot.new.self.state c.stop.new.self.state (Rot c.args.handle c.args.place c.args.byte) c.in-Err.ensures.err c.stop.ensures
