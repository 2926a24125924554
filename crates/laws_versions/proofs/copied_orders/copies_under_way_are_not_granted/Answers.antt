use Rattle.laws_versions.proofs.CopiedOrders.{copies_under_way_are_not_granted}
use Rattle.laws_versions.proofs.copied_orders.copies_under_way_are_not_granted.Goals as goal

pub returns : goal.returns
returns c = copies_under_way_are_not_granted
