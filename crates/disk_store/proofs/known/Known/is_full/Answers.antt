use Rattle.std.proofs.Common.{ap, ◌∙◌}
use Rattle.std.specs.Prelude.{nat_le}
use Rattle.disk_store.proofs.Rows.{len_known}
use Rattle.disk_store.proofs.known.Known.is_full.Goals as goal

pub returns : goal.returns
returns c d is = ap (nat_le c.args.slots) (c.len.ensures ∙ len_known d c.args.self.now.rows is.rows_are)
