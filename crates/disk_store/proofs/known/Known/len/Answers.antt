use Rattle.std.proofs.Common.{◌∙◌}
use Rattle.disk_store.proofs.Rows.{len_known}
use Rattle.disk_store.proofs.known.Known.len.Goals as goal

pub returns : goal.returns
returns c d is = c.len.ensures ∙ len_known d c.args.self.now.rows is.rows_are
