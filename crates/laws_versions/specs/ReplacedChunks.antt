-- Laws of every lawful list of events, restarts, losses and repeats included, on chunks whose place in a file a copy took, that public functions of this crate state.
use Rattle.std.specs.Prelude.{◌≡◌, ◌≢◌, ◌⊎◌, ℕ, ◌≤◌, ◌<◌, List, Some, None, IsTrue}
use Rattle.gfs_types.specs.declared.config.Config.{Config}
use Rattle.messages.specs.declared.message.Message.{Message}
use Rattle.messages.specs.declared.message.Body.TheVariants as body
use Rattle.messages.specs.declared.message.Location.{Location}
use Rattle.chunk_table.specs.ChunkTable.{ChunkTable, file_of, handles_of}
use Rattle.protocol.specs.Tables.{element_at}
use Rattle.protocol.specs.Sending.{the_client}
use Rattle.protocol.specs.Logged.{replayed}
use Rattle.protocol.specs.World.{WorldState, IsReached}
use Rattle.laws_base.specs.Versions.{IsLeaseOver}
use Rattle.laws_base.specs.Reads.{HasAsked}

-- A client was told a location of a chunk that was granted, in answer to its own ask for a chunk of the file; the answer stands at this place among the messages.
pub record IsToldAt (sent : List Message) (client file : ℕ) (l : Location) (place : ℕ) : Type 0 where
  pub number : ℕ
  pub asked : HasAsked sent client file number
  pub told : Message
  pub sent_is : element_at sent place ≡ Some told
  pub receiver_is : told.receiver ≡ the_client client
  pub body_is : told.body ≡ body.Told number (Some l)
  pub granted : 1 ≤ l.round.0

-- The told chunk stands at its place in the file, or the file is gone.
abbrev pub StandsOrIsGone : ChunkTable → ℕ → Location → Type 0
StandsOrIsGone t file l = (element_at (handles_of t file) l.index ≡ Some l.handle.0) ⊎ (file_of t file ≡ None)

-- Where clocks are kept, a chunk that was told with a granted round stands at its place in the file, or the file is gone, or the lease of the told round is over; so at a master that is up, and in the log also of one that is down (section 3.4).
abbrev pub ToldChunksStandOrAreOver : Type 0
ToldChunksStandOrAreOver =
    (config : Config) (servers clients : ℕ) (w : WorldState) → IsReached config servers clients w → IsTrue w.observer.are_clocks_kept
    → (client file : ℕ) (l : Location) (place : ℕ) → IsToldAt w.sent client file l place
    → IsLeaseOver w l.handle.0 l.round.0 ⊎ (StandsOrIsGone (replayed w.master.disk).table file l × (IsTrue w.master.up → StandsOrIsGone w.master.logged.table file l))

-- Where clocks are kept, of two locations that were told with granted rounds for one place in a file, with different handles, the first one's lease is over (section 3.4).
abbrev pub ReplacedChunksHaveNoLease : Type 0
ReplacedChunksHaveNoLease =
    (config : Config) (servers clients : ℕ) (w : WorldState) → IsReached config servers clients w → IsTrue w.observer.are_clocks_kept
    → (client other file : ℕ) (l k : Location) (place later : ℕ) → IsToldAt w.sent client file l place → IsToldAt w.sent other file k later
    → place < later → l.index ≡ k.index → l.handle.0 ≢ k.handle.0 → IsLeaseOver w l.handle.0 l.round.0
