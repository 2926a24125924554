-- What a server takes a step on: a message, or none at a tick.
use Rattle.std.specs.Prelude.{Option, Some, None}
use Rattle.messages.specs.declared.event.NodeInput.{NodeInput}
use Rattle.messages.specs.declared.event.NodeInput.TheVariants.{Deliver, Tick}
use Rattle.messages.specs.declared.message.Message.{Message}

abbrev pub input_of : Option Message → NodeInput
input_of None = Tick
input_of (Some m) = Deliver m
