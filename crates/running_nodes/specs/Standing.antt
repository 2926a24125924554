-- For which states of the definitions a node's code stands.
use Rattle.std.specs.Prelude.{◌≡◌, ◌⊎◌, ℕ, false, IsSome}
use Rattle.gfs_types.specs.declared.config.Config.{Config}
use Rattle.messages.specs.declared.event.StepOut.{StepOut}
use Rattle.protocol.specs.Client.{ClientState, new_client}
use Rattle.protocol.specs.Conforms.{IsLeftAs}
use Rattle.protocol.specs.Master.{MasterState}
use Rattle.protocol.specs.Seen.{down_output}
use Rattle.protocol.specs.Server.{ServerState}
use Rattle.protocol_journal.specs.Journal.{NodeState, MasterIs, ServerIs, ClientIs}

-- a master that a step left so
pub record MasterStands (held : MasterState) (s : NodeState) : Type 0 where
  pub master : MasterState
  pub is : s ≡ MasterIs master
  pub left_as : IsLeftAs master held

abbrev pub ServerStands : ServerState → NodeState → Type 0
ServerStands held s = s ≡ ServerIs held

abbrev pub ClientStands : ClientState → NodeState → Type 0
ClientStands held s = s ≡ ClientIs held

-- a client of these settings and this number that went down
abbrev pub down_client : Config → ℕ → ClientState
down_client config id = record (new_client config id) { up = false }

-- A step of such a client gave this, and there was a copy of its answer; or it had an answer of which there was none, and the client went down in that step.
abbrev pub IsCopiedOrStopped : (after new : ClientState) (config : Config) (id : ℕ) (out given : StepOut) → Type 0
IsCopiedOrStopped after new config id out given = ((given ≡ out) × (new ≡ after)) ⊎ (IsSome out.answer × (given ≡ down_output) × (new ≡ down_client config id))
