-- The order of a clone.
use Rattle.std.specs.Prelude.{Option, Some, None}
use Rattle.messages.specs.declared.message.Body.TheVariants as body
use Rattle.protocol.specs.Master.{MasterDoing, orders}
use Rattle.rereplicate.specs.declared.clone_order.CloneOrder.{CloneOrder}

-- this one is sent, if any
abbrev pub orders_this : MasterDoing → Option CloneOrder → MasterDoing
orders_this d None = d
orders_this d (Some c) = orders d c.target.0 (λ order. body.Clone order c.handle c.version c.source)
