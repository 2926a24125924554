use Rattle.shell.proofs.Shown.{dropped}
use Rattle.shell.proofs.world.SimulatedWorldSimulatedCell.rebase.Goals as goal

pub returns : goal.returns
returns g c = dropped c.args.self.now.world c.rebase_in_place.new.self c.args.now.0 c.rebase_in_place.result c.rebase_in_place.ensures.ok c.rebase_in_place.ensures.fault c.rebase_in_place.ensures.err
