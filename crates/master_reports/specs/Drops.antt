-- The orders that answer a report.
use Rattle.std.specs.Prelude.{ℕ, List, [], ◌∷◌}
use Rattle.messages.specs.declared.message.Body.TheVariants as body
use Rattle.protocol.specs.Master.{MasterDoing, orders}
use Rattle.stale_collect.specs.declared.drop_order.DropOrder.{DropOrder}

-- these orders go to a server
abbrev pub orders_drops : MasterDoing → ℕ → List DropOrder → MasterDoing
orders_drops d server [] = d
orders_drops d server (o ∷ rest) = orders_drops (orders d server (λ order. body.Drop order o.handle o.version)) server rest
