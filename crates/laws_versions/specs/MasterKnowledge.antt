-- Laws of every lawful list of events on what the master knows of attempts and leases, that public functions of this crate state.
use Rattle.std.specs.Prelude.{◌≡◌, ◌⊎◌, ℕ, suc, List, Some, IsTrue}
use Rattle.std.specs.FinMap as table
use Rattle.gfs_types.specs.declared.config.Config.{Config}
use Rattle.gfs_types.specs.declared.ids.Moment.{Moment}
use Rattle.gfs_types.specs.declared.ids.OrderNo.{OrderNo}
use Rattle.messages.specs.declared.message.Message.{Message}
use Rattle.chunk_table.specs.ChunkTable.{ChunkRow, chunk_of}
use Rattle.primary_order.specs.SerialOrder.{SerialOrder}
use Rattle.protocol.specs.Tables.{element_at, has_number}
use Rattle.protocol.specs.Sending.{handle_of, version_of}
use Rattle.protocol.specs.Logged.{replayed}
use Rattle.protocol.specs.Master.{MasterState, VersionAttempt}
use Rattle.protocol.specs.Server.{ServerState}
use Rattle.protocol.specs.World.{WorldState, IsReached}
use Rattle.laws_versions.specs.GivenOnce.{RefusesItsOrder}
use Rattle.laws_base.specs.Laws.{IsGrantBody}

-- A server that the master counts among those that recorded a version attempt refuses each order that gives it that version (section 3.1).
abbrev pub RecordedServersRefuseTheirOrder : Type 0
RecordedServersRefuseTheirOrder =
    (config : Config) (servers clients : ℕ) (w : WorldState) → IsReached config servers clients w
    → (handle : ℕ) (a : VersionAttempt) → table.get w.master.attempts handle ≡ Some a
    → (index : ℕ) → IsTrue (has_number a.recorded (suc index)) → (s : ServerState) → element_at w.servers index ≡ Some s → RefusesItsOrder w.sent index s handle a.version

-- the row of a chunk, at a master that is up, or in the log, also of one that is down
abbrev pub IsRowOf : MasterState → ℕ → ChunkRow → Type 0
IsRowOf m handle row = (IsTrue m.up × (chunk_of m.logged.table handle ≡ Some row)) ⊎ (chunk_of (replayed m.disk).table handle ≡ Some row)

-- The Grant of the granted version of a chunk names the members of the chunk's row (section 3.1).
abbrev pub MembersAreTheRows : Type 0
MembersAreTheRows =
    (config : Config) (servers clients : ℕ) (w : WorldState) → IsReached config servers clients w
    → (handle : ℕ) (row : ChunkRow) → IsRowOf w.master handle row
    → (place : ℕ) (grant : Message) (order : OrderNo) (end_moment : Moment) (members : List ℕ) → element_at w.sent place ≡ Some grant
    → IsGrantBody order (handle_of handle) (version_of row.granted) end_moment members grant.body → members ≡ row.members

-- A lease of the granted version that a server holds has the members of the chunk's row (section 3.1).
abbrev pub LeaseMembersAreTheRows : Type 0
LeaseMembersAreTheRows =
    (config : Config) (servers clients : ℕ) (w : WorldState) → IsReached config servers clients w
    → (index : ℕ) (s : ServerState) → element_at w.servers index ≡ Some s → (handle : ℕ) (p : SerialOrder) → table.get s.leases handle ≡ Some p
    → (row : ChunkRow) → IsRowOf w.master handle row → p.held.version ≡ row.granted → p.held.members ≡ row.members
