-- What servers read of their replicas, where another order has the same entries up to the replica's version: that of a file's chunk, also where a copy took the handle's place since (sections 2.7.1, 3.4 and 5.2).
use Rattle.std.specs.Prelude.{◌≡◌, ℕ, nat_le, filter, List, Some, IsTrue}
use Rattle.gfs_types.specs.declared.config.Config.{Config}
use Rattle.gfs_types.specs.Image.{image_length, image_slice}
use Rattle.relaxed_file.specs.Order.{Entry, IsSelection, mutations_of}
use Rattle.replica_store.specs.declared.row.Row.{Row}
use Rattle.replica_store.specs.Replicas.{row_at, read_at}
use Rattle.protocol.specs.Tables.{element_at}
use Rattle.protocol.specs.Observer.{entries_of}
use Rattle.protocol.specs.Server.{ServerState}
use Rattle.protocol.specs.World.{WorldState, IsReached, is_kept}

-- of rounds up to this one the two orders have the same entries
abbrev pub AgreeUpTo : ℕ → List Entry → List Entry → Type 0
AgreeUpTo version order other = filter (λ e. nat_le e.round version) order ≡ filter (λ e. nat_le e.round version) other

-- A selection up to a round is one of each order that agrees up to it.
abbrev pub SelectionsGoByRounds : Type 0
SelectionsGoByRounds = (version : ℕ) (order other chosen : List Entry) → AgreeUpTo version order other → IsSelection version order chosen → IsSelection version other chosen

-- these are entries of the order up to the row's version, with each settled one: the bytes that are read of the replica are theirs, and its length
pub record IsReadAs (s : ServerState) (handle : ℕ) (row : Row) (order chosen : List Entry) : Type 0 where
  pub selection : IsSelection row.version.0 order chosen
  pub bytes : (offset count : ℕ) (found : List ℕ) → read_at s.disk handle offset count ≡ Some found → found ≡ image_slice (mutations_of chosen) offset count
  pub length : row.count ≡ image_length (mutations_of chosen)

-- Where clocks and disks are kept: what a server reads of a replica, and its length, are of such entries of the chunk's order, and of each order that agrees with it up to the replica's version.
abbrev pub ReadingsAreOfTheChunk : Type 0
ReadingsAreOfTheChunk =
    (config : Config) (servers clients : ℕ) (w : WorldState) → IsReached config servers clients w → IsTrue (is_kept w)
    → (index : ℕ) (s : ServerState) → element_at w.servers index ≡ Some s → (handle : ℕ) (row : Row) → row_at s.disk handle ≡ Some row
    → (order : List Entry) → AgreeUpTo row.version.0 (entries_of w.observer handle) order
    → (chosen : List Entry) × IsReadAs s handle row order chosen
