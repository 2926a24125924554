use Rattle.serve.proofs.Starting.{unused}
use Rattle.serve.proofs.run.start_client.Goals as goal

pub new_client-client-requires : goal.new_client-client-requires
new_client-client-requires g c = unused g.S.Serving.of c.args.number (c.args.cell.now.made) c.args.cell.now.of c.in-Ok.seat c.in-Ok.ensures.seat c.requires.cell c.requires.number
