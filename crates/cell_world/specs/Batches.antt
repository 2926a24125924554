-- The messages that were sent, in batches.
use Rattle.std.specs.Prelude.{◌≡◌, ℕ, suc, ◌+◌, ◌<◌, ◌≤◌, List, [], ◌∷◌, ◌++◌, length, take, Option, option_and_then}
use Rattle.messages.specs.declared.message.Message.{Message}
use Rattle.protocol.specs.World.{numbered_from_1}
use Rattle.cell_world.specs.declared.batch.Batch.{Batch}

-- the messages in order, with room for so many batches more
pub record SentMessages : Type 0 where
  pub messages : List Message
  pub room : ℕ

abbrev pub sent_in : List Batch → List Message
sent_in [] = []
sent_in (b ∷ rest) = b.messages ++ sent_in rest

-- each begins with the next number after so many before it
abbrev pub AreNumbered : ℕ → List Batch → Type 0
AreNumbered before [] = Unit {0}
AreNumbered before (b ∷ rest) = (b.first ≡ suc before) × AreNumbered (before + length b.messages) rest

-- a number from 1 is one of the batch at this place
pub record IsIn (batches : List Batch) (number : ℕ) (place : ℕ) : Type 0 where
  pub within : place < length batches
  pub after : length (sent_in (take place batches)) < number
  pub until : number ≤ length (sent_in (take (suc place) batches))

-- the message of a number, if there is a number
abbrev pub message_named : List Message → Option ℕ → Option Message
message_named sent given = option_and_then (numbered_from_1 sent) given
