use Rattle.script.proofs.Bytes.{keeps_all}
use Rattle.serve.proofs.printing.next_told.Goals as goal

pub returns-in-Ok-clause-keeps : goal.returns-in-Ok-clause-keeps
returns-in-Ok-clause-keeps g c = keeps_all (g.W.Write.contents c.args.writer.now)
