use Rattle.std.proofs.Common.{Option, sym, ap, ◌∙◌}
use Rattle.std.specs.Option.{option_map}
use Rattle.replica_store.specs.declared.row.Row.{Row}
use Rattle.chunk_store.proofs.volume.StoreVolume.length.Goals as goal

pub returns : goal.returns
returns g c d is = ap (λ (o : Option Row). option_map (λ (row : Row). row.count) o) (sym c.in_ok-row.was ∙ c.row.ensures d is)
