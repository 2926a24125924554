use Rattle.std.proofs.Common.{◌∙◌}
use Rattle.std.proofs.lemmas.Result.{IfOk-weaker}
use Rattle.disk_store.proofs.Rows.{lines_known}
use Rattle.disk_store.proofs.known.Known.list.Goals as goal

pub returns : goal.returns
returns c d is = IfOk-weaker c.lines_of.result _ _ (λ lines made. made ∙ lines_known d c.args.self.now.rows is.rows_are) c.lines_of.ensures
