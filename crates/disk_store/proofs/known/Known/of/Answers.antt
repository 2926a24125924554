use Rattle.std.proofs.Common.{List, map as mapped, ap, ◌∙◌}
use Rattle.std.specs.FinMap as map
use Rattle.gfs_types.specs.declared.ids.Handle.{Handle}
use Rattle.replica_store.specs.declared.row.Row.{Row}
use Rattle.disk_store.specs.Known.{Rows, entry_of}
use Rattle.disk_store.proofs.Rows.{rows_said}
use Rattle.disk_store.proofs.known.Known.of.Goals as goal

pub returns : goal.returns
returns c d ordered listed = record {
  order_is = ordered;
  rows_are = λ q. ap (λ (m : Rows). map.get m q) (c.in_ok-rows.ensures ∙ ap (λ (l : List (Handle × Row)). map.from_entries (mapped entry_of l)) listed) ∙ rows_said d q;
}
