-- Laws of every lawful list of events on the handles under which chunks are copied, that public functions of this crate state.
use Rattle.std.specs.Prelude.{◌≡◌, ℕ, ◌≤◌, ◌<◌, [], Some, None, IsTrue}
use Rattle.std.specs.FinMap as table
use Rattle.gfs_types.specs.declared.config.Config.{Config}
use Rattle.gfs_types.specs.declared.ids.Handle.{Handle}
use Rattle.messages.specs.declared.event.NodeInput.{NodeInput}
use Rattle.chunk_table.specs.ChunkTable.{ChunkRow, chunk_of}
use Rattle.protocol.specs.Tables.{element_at}
use Rattle.protocol.specs.Choice.{Choice}
use Rattle.protocol.specs.declared.seen.Seen.TheVariants.{CopyStarted}
use Rattle.protocol.specs.Observer.{Placed, order_of}
use Rattle.protocol.specs.Server.{ServerState}
use Rattle.protocol.specs.Master.{VersionAttempt}
use Rattle.protocol.specs.MasterStep.{master_step}
use Rattle.protocol.specs.World.{WorldState, IsReached}
use Rattle.laws_base.specs.Laws.{grants_of}

-- A handle is new: no Grant of it was sent, no server has a lease of it, and it has no entry.
pub record IsNewHandle (w : WorldState) (handle : ℕ) : Type 0 where
  pub granted : (version : ℕ) → grants_of handle version w.sent ≡ 0
  pub leased : (index : ℕ) (s : ServerState) → element_at w.servers index ≡ Some s → table.get s.leases handle ≡ None
  pub empty : order_of w.observer handle ≡ []

-- As the master shows that it begins a copy, the copy's handle is new (section 3.4).
abbrev pub CopiesHaveNewHandles : Type 0
CopiesHaveNewHandles =
    (config : Config) (servers clients : ℕ) (w : WorldState) → IsReached config servers clients w
    → (moment : ℕ) (i : NodeInput) (choice : Choice) (place : ℕ) (handle copy : Handle) → element_at (master_step w.master moment i choice).seen place ≡ Some (CopyStarted handle copy)
    → IsNewHandle w copy.0

-- A number of a chunk was issued at the master: its handle was used, and while the chunk is there, what is attempted comes after the number.
pub record WasIssued (w : WorldState) (handle version : ℕ) : Type 0 where
  pub used : handle < w.master.logged.next_handle
  pub issued : (row : ChunkRow) → chunk_of w.master.logged.table handle ≡ Some row → version ≤ row.issued
  pub passed : (row : ChunkRow) → chunk_of w.master.logged.table handle ≡ Some row → (a : VersionAttempt) → table.get w.master.attempts handle ≡ Some a → version < a.version

-- At a master that is up the round of each entry was issued (sections 3.1 and 3.4).
abbrev pub RoundsOfEntriesWereIssued : Type 0
RoundsOfEntriesWereIssued =
    (config : Config) (servers clients : ℕ) (w : WorldState) → IsReached config servers clients w → IsTrue w.master.up
    → (handle place : ℕ) (p : Placed) → element_at (order_of w.observer handle) place ≡ Some p → WasIssued w handle p.entry.round
