use Rattle.std.proofs.Common.{sym, ap, ◌∙◌}
use Rattle.cell_looks.specs.Noted.{is_client}
use Rattle.cell_looks.proofs.PrintedHistories.{none_of_it}
use Rattle.cell_looks.proofs.history_printing.print_entry.Goals as goal

pub print_step-requires : goal.print_step-requires
print_step-requires g c = sym c.node.ensures ∙ c.in-Some.ensures.some

pub returns-in-None-clause-printed : goal.returns-in-None-clause-printed
returns-in-None-clause-printed g c = none_of_it (g.W.Write.contents c.args.writer.now) c.args.entry.now (ap is_client (sym c.node.ensures) ∙ c.in-None.ensures.none)
