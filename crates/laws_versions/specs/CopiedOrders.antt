-- Laws of every lawful list of events on copies that are under way at the master, that public functions of this crate state.
use Rattle.std.specs.Prelude.{◌≡◌, ℕ, ◌<◌, Some, None, IsTrue}
use Rattle.std.specs.FinMap as table
use Rattle.gfs_types.specs.declared.config.Config.{Config}
use Rattle.chunk_table.specs.ChunkTable.{ChunkRow, chunk_of}
use Rattle.protocol.specs.Tables.{element_at}
use Rattle.protocol.specs.Logged.{Copy}
use Rattle.protocol.specs.Observer.{Placed, order_of}
use Rattle.protocol.specs.Server.{ServerState}
use Rattle.protocol.specs.World.{WorldState, IsReached}
use Rattle.laws_base.specs.Laws.{grants_of}

-- Where clocks are kept, the order of a copy that is under way at a master that is up is its source's (section 3.4).
abbrev pub CopiesUnderWayHaveTheirSourcesOrder : Type 0
CopiesUnderWayHaveTheirSourcesOrder =
    (config : Config) (servers clients : ℕ) (w : WorldState) → IsReached config servers clients w → IsTrue w.observer.are_clocks_kept → IsTrue w.master.up
    → (copy : ℕ) (c : Copy) → table.get w.master.logged.copies copy ≡ Some c → order_of w.observer copy ≡ order_of w.observer c.source

-- A chunk has its row, without an owner and without a grant: no Grant of it was sent, and no server has a lease of it. What was issued of it comes after what was issued of its source, and after each round of its order.
pub record IsUngrantedCopy (w : WorldState) (copy source : ℕ) : Type 0 where
  pub row : ChunkRow
  pub there : chunk_of w.master.logged.table copy ≡ Some row
  pub unowned : row.references ≡ 0
  pub ungranted : row.granted ≡ 0
  pub granted : (version : ℕ) → grants_of copy version w.sent ≡ 0
  pub leased : (index : ℕ) (s : ServerState) → element_at w.servers index ≡ Some s → table.get s.leases copy ≡ None
  pub follows : (other : ChunkRow) → chunk_of w.master.logged.table source ≡ Some other → other.issued < row.issued
  pub above : (place : ℕ) (p : Placed) → element_at (order_of w.observer copy) place ≡ Some p → p.entry.round < row.issued

-- Where clocks are kept, a copy that is under way at a master that is up is so (section 3.4).
abbrev pub CopiesUnderWayAreNotGranted : Type 0
CopiesUnderWayAreNotGranted =
    (config : Config) (servers clients : ℕ) (w : WorldState) → IsReached config servers clients w → IsTrue w.observer.are_clocks_kept → IsTrue w.master.up
    → (copy : ℕ) (c : Copy) → table.get w.master.logged.copies copy ≡ Some c → IsUngrantedCopy w copy c.source
