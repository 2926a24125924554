use Rattle.std.proofs.lemmas.Result.{on_ok_weaker}
use Rattle.std.proofs.Common.{ap}
use Rattle.gfs_types.specs.declared.ids.Node.TheVariants.{Client}
use Rattle.messages.specs.declared.event.StepOut.{StepOut}
use Rattle.cell_looks.proofs.PrintedHistories.{both_printed}
use Rattle.cell_looks.proofs.history_printing.print_step.Goals as goal

pub returns-clause-printed : goal.returns-clause-printed
returns-clause-printed g c =
    on_ok_weaker c.print_answer.result
    (λ last. both_printed _ _ _ c.args.entry.now (Client c.args.client) _ _ _ c.requires c.moment-moment.ensures c.cause.ensures (ap (λ (o : StepOut). o.answer) c.out.ensures) c.in_ok-print_call.ensures.printed last)
    c.print_answer.ensures.printed
