use Rattle.std.proofs.Common.{nat_lt, rules}
use Rattle.std.proofs.lemmas.List.Sorted.{IsPartitionPoint-from_clause}
use Rattle.ordered_map.proofs.Places.{parted, pointed}
use Rattle.ordered_map.proofs.leaf.place_of.Goals as goal

pub returns : goal.returns
returns g c =
    let es = c.args.entries.now in
    pointed c.args.key es c.partition_point.result c.partition_point.ensures.bound
    (IsPartitionPoint-from_clause (λ e. nat_lt e.0 c.args.key) es c.partition_point.result c.partition_point.ensures.partitioned (parted c.args.key es c.requires) (λ a r q k. search rules))
