use Rattle.shell.proofs.Shown.{shown_ok}
use Rattle.shell.proofs.world.SimulatedWorldSimulatedCell.replicas.Goals as goal

pub returns : goal.returns
returns g c = shown_ok c.args.self.now.world c.args.file.0 c.args.index (λ v. v.items) c.replicas.result c.replicas.ensures.held
