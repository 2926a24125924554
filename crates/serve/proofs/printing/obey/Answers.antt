use Rattle.std.proofs.lemmas.Result.{on_ok_weaker}
use Rattle.serve.proofs.printing.obey.Goals as goal

pub returns-clause-printed : goal.returns-clause-printed
returns-clause-printed g c = on_ok_weaker c.tend_cell.result (λ all. all c.args.printed.now) c.tend_cell.ensures.printed
