-- When a node may say why it goes down.
use Rattle.std.specs.Prelude.{◌≡◌, ℕ, ◌<◌, Bool, Option, Some, is_some}
use Rattle.protocol.specs.declared.down_cause.DownCause.{DownCause}
use Rattle.protocol.specs.declared.down_cause.DownCause.TheVariants.{Device, NoRoom}

-- A node that goes down in a step says why, and no other does: its device only where that has failed in the step, as before and after it had failed so often, and never want of room.
pub record IsDownFor (down : Bool) (cause : Option DownCause) (before now : ℕ) : Type 0 where
  pub told : is_some cause ≡ down
  pub device : cause ≡ Some Device → before < now
  pub room : cause ≡ Some NoRoom → ⊥
