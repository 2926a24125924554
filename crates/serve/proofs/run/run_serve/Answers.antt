use Rattle.std.specs.Option.{option_copied}
use Rattle.script.proofs.ReadPlans.{handed_on}
use Rattle.serve.proofs.Finishing.{stops_starting}
use Rattle.serve.proofs.run.run_serve.Goals as goal

pub returns-in_err-cell-clause-stops : goal.returns-in_err-cell-clause-stops
returns-in_err-cell-clause-stops g c =
    let at = g.W.Write.contents c.args.writer.now in
    handed_on c.from_residual.result _ c.in_err-cell.field-0.0 c.from_residual.ensures.1
    (stops_starting c.args.options.now (option_copied c.args.path) (g.R.Read.remaining c.args.reader) at c.in_err-cell.field-0.0 c.in_err-cell.ensures.fault)
