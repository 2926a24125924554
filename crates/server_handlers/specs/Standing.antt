-- A server over its store.
use Rattle.std.specs.Prelude.{ℕ}
use Rattle.protocol.specs.Server.{ServerState}

-- what it is, and how often the disk of its store has failed
pub record HeldServerState : Type 0 where
  pub state : ServerState
  pub failed : ℕ
