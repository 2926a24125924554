-- Laws of a cell to which lawful events led, of what it holds: versions and leases, names, and the master's log.
use Rattle.std.specs.Prelude.{◌≡◌, ◌≤◌, ◌<◌, ℕ, List, ◌++◌, Some, IsTrue}
use Rattle.std.specs.FinMap as table
use Rattle.gfs_types.specs.declared.config.Config.{Config}
use Rattle.messages.specs.declared.message.Message.{Message}
use Rattle.relaxed_file.specs.Names.{IsTree}
use Rattle.primary_order.specs.SerialOrder.{SerialOrder}
use Rattle.protocol.specs.Tables.{element_at}
use Rattle.protocol.specs.Logged.{all_copies_given_up, replayed}
use Rattle.protocol.specs.Server.{ServerState}
use Rattle.protocol.specs.World.{WorldState, IsReached}
use Rattle.laws_base.specs.Laws.{HaveSameNames, chunk_but_end, grants_of}
use Rattle.cell_world.specs.Held.{HeldCell}
use Rattle.cell_core.specs.Standing.{StandsFor}

-- A version of a chunk is granted at most once, in the messages that the cell has and in those that it dropped (section 3.1).
abbrev pub GrantsVersionsOnce : HeldCell → Type 0
GrantsVersionsOnce h =
    (config : Config) (servers clients : ℕ) (w : WorldState) (earlier : List Message) → IsReached config servers clients w → StandsFor w earlier h
    → (handle version : ℕ) → grants_of handle version (earlier ++ h.sent) ≤ 1

-- the server at this place holds a lease of a chunk that ends after a moment
pub record HoldsLeaseAfter (h : HeldCell) (moment index handle : ℕ) : Type 0 where
  pub server : ServerState
  pub lease : SerialOrder
  pub is_there : element_at h.servers index ≡ Some server
  pub is_held : table.get server.leases handle ≡ Some lease
  pub lasts : moment < lease.held.until

-- Where clocks were kept, one server at most holds a lease of a chunk that ends after the greatest moment that was given (section 3.1).
abbrev pub HasOneLasting : HeldCell → Type 0
HasOneLasting h =
    (config : Config) (servers clients : ℕ) (w : WorldState) (earlier : List Message) → IsReached config servers clients w → StandsFor w earlier h → IsTrue w.observer.are_clocks_kept
    → (index other handle : ℕ) → HoldsLeaseAfter h h.greatest index handle → HoldsLeaseAfter h h.greatest other handle → index ≡ other

-- The names of a master that is up are a tree (section 4.1).
abbrev pub HasTreeOfNames : HeldCell → Type 0
HasTreeOfNames h = IsTrue h.master.up → IsTree h.master.logged.names

-- The log, replayed, has the names, files and chunks of a master that is up, but for the ends of leases, for shapes and for copies under way (section 2.6.3).
pub record IsReplayed (h : HeldCell) : Type 0 where
  pub names : HaveSameNames h.master.logged (replayed h.master.disk)
  pub files : h.master.logged.table.files ≡ (replayed h.master.disk).table.files
  pub chunks : (handle : ℕ) → chunk_but_end (all_copies_given_up h.master.logged).table handle ≡ chunk_but_end (replayed h.master.disk).table handle

abbrev pub LogHasAll : HeldCell → Type 0
LogHasAll h = IsTrue h.master.up → IsReplayed h
