-- The network's orders on messages.
use Rattle.std.specs.Prelude.{◌≡◌, ℕ, List, Some, slice_get}
use Rattle.std.specs.List.{remove}
use Rattle.messages.specs.declared.message.Message.{Message}
use Rattle.script.specs.Kinds.{kind_of}
use Rattle.script.specs.declared.cell_lines.Matter.{Matter}

-- the kind of a message and its receiver
abbrev pub matter_of : Message → Matter
matter_of message = record { kind = kind_of message.body; receiver = message.receiver }

-- an order on such messages was there, and is over
abbrev pub TakesOrder : List Matter → List Matter → Message → Type 0
TakesOrder old new message = (i : ℕ) × (slice_get old i ≡ Some (matter_of message)) × (new ≡ remove old i)
