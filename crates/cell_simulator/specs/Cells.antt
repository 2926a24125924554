-- What a simulator is told of a cell.
use Rattle.std.specs.Prelude.{ℕ, Bool, List, Option}
use Rattle.gfs_types.specs.declared.answer.Answer.{Answer}
use Rattle.gfs_types.specs.declared.ids.ClientId.{ClientId}
use Rattle.gfs_types.specs.declared.ids.FileId.{FileId}
use Rattle.gfs_types.specs.declared.ids.Handle.{Handle}
use Rattle.gfs_types.specs.Paths.{Path}
use Rattle.messages.specs.declared.event.Event.{Event}
use Rattle.messages.specs.declared.message.Message.{Message}
use Rattle.relaxed_file.specs.declared.region.Region.{Region}
use Rattle.script.specs.declared.stored.StoredReplica.{StoredReplica}

pub record Meaning (C : Type 0) : Type 1 where
  -- what an event may come to: its answer, and the cell after it
  pub steps : C → Event → Option Answer → C → Type 0
  -- what may come of dropping all messages at a moment, as the nodes but the clients begin again
  pub rebases : C → ℕ → C → Type 0
  -- what may come of dropping all messages, as none of them comes any more
  pub drops : C → C → Type 0
  -- how many messages there are, and the one of a number
  pub count : C → ℕ
  pub message : C → ℕ → Option Message
  -- how many servers and clients there are
  pub servers : C → ℕ
  pub clients : C → ℕ
  -- whether a client's call waits for its answer
  pub is_open : C → ClientId → Bool
  -- what can be looked up
  pub file : C → Path → Option FileId
  pub regions : C → FileId → ℕ → Option (List Region)
  pub replicas : C → FileId → ℕ → Option (Handle × List StoredReplica)
