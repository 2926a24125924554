use Rattle.std.proofs.Common.{sym, subst, ◌∙◌}
use Rattle.std.specs.Prelude.{IfErr, Option}
use Rattle.std.proofs.lemmas.Result.{IfOk-weaker}
use Rattle.cell_run.specs.Starts.{IsStartFault}
use Rattle.cell_run.specs.declared.start_fault.StartFault.{StartFault}
use Rattle.cell_run.proofs.Settings.{good_start}
use Rattle.cell_run.proofs.cell.Cell.start_retaining.Goals as goal

pub returns-clause-good : goal.returns-clause-good
returns-clause-good g c =
    let good = good_start c.args.config c.args.servers (sym c.are_fitting.ensures.range ∙ c.if-not-are_fitting.false) (sym c.is_count.ensures ∙ c.if-not-is_count.false) in
    IfOk-weaker c.start_with.result _ _ (λ cell is. good) c.start_with.ensures.cell

pub returns-clause-fault : goal.returns-clause-fault
returns-clause-fault g c =
    let good = good_start c.args.config c.args.servers (sym c.are_fitting.ensures.range ∙ c.if-not-are_fitting.false) (sym c.is_count.ensures ∙ c.if-not-is_count.false) in
    subst (λ (bad : Option StartFault). IfErr c.start_with.result (IsStartFault bad)) (sym good) c.start_with.ensures.fault
