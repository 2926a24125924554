use Rattle.laws_versions.proofs.CopiedOrders.{copies_under_way_have_their_sources_order}
use Rattle.laws_versions.proofs.copied_orders.copies_under_way_have_their_sources_order.Goals as goal

pub returns : goal.returns
returns c = copies_under_way_have_their_sources_order
