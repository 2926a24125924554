use Rattle.laws_versions.proofs.FullOrders.{full_chunks_have_a_full_order}
use Rattle.laws_versions.proofs.full_orders.full_chunks_have_a_full_order.Goals as goal

pub returns : goal.returns
returns c = full_chunks_have_a_full_order
