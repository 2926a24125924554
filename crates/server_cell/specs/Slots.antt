-- A server that lets its disk stop and begins again over it.
use Rattle.std.specs.Prelude.{⊤, ℕ, List, [], ◌∷◌, Option, Some, None}
use Rattle.gfs_types.specs.declared.config.Config.{Config}
use Rattle.disk.specs.Failing.{FuseState}
use Rattle.disk.specs.Writes.{LeftBy}
use Rattle.replica_store.specs.Replicas.{new_server_disk}
use Rattle.disk_store.specs.Standing.{LeavesHolding}
use Rattle.protocol.specs.Server.{ServerState, down_server, stopped_server}
use Rattle.server_handlers.specs.Standing.{HeldServerState}

-- The server that is held; where none is, since it could not be opened again, the one that was, which is down over the disk that it had, or over a new one.
abbrev pub slot_state : Config → ℕ → Option HeldServerState → List HeldServerState → ServerState
slot_state config id (Some s) before = s.state
slot_state config id None [] = down_server config id (new_server_disk config.chunk config.block config.slots) []
slot_state config id None (s ∷ rest) = stopped_server s.state s.state.disk s.state.under_way

-- Where no server is held but a disk, a stop leaves of it what the server's disk had, with what is under way made or not.
abbrev pub IsDiskLeft : Config → ℕ → Option HeldServerState → List HeldServerState → Option FuseState → Type 0
IsDiskLeft config id (Some s) before disk = ⊤
IsDiskLeft config id None before None = ⊤
IsDiskLeft config id None before (Some f) = (let s = slot_state config id None before in LeavesHolding (LeftBy f.disk) s.disk s.under_way)
