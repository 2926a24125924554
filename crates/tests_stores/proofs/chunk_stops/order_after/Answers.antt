use Rattle.std.proofs.Common.{ap, ◌∙◌}
use Rattle.tests_stores.proofs.chunk_stops.order_after.Goals as goal

pub keep_order-requires : goal.keep_order-requires
keep_order-requires c = ap (λ s. s.is_open) c.arm.ensures.unchanged ∙ c.in-Ok-open_new.ensures.is_open
