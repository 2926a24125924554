-- Laws of every lawful list of events on the holders that are told to clients, and on what a told chunk stands for, that public functions of this crate state.
use Rattle.std.specs.Prelude.{◌≡◌, ◌⊎◌, ℕ, Some, IsTrue}
use Rattle.gfs_types.specs.declared.config.Config.{Config}
use Rattle.messages.specs.declared.message.Body.TheVariants as body
use Rattle.messages.specs.declared.message.Message.{Message}
use Rattle.messages.specs.declared.message.Location.{Location}
use Rattle.messages.specs.declared.message.Holder.{Holder}
use Rattle.chunk_table.specs.ChunkTable.{handles_of}
use Rattle.protocol.specs.Tables.{element_at}
use Rattle.protocol.specs.Logged.{replayed}
use Rattle.protocol.specs.Observer.{order_of}
use Rattle.protocol.specs.World.{WorldState, IsReached}
use Rattle.laws_versions.specs.ReplacedChunks.{IsToldAt}
use Rattle.laws_versions.specs.ToldVersions.{WasOrdered}
use Rattle.laws_versions.specs.SkippedRounds.{up_to}

-- Each holder that a location names was ordered to have that version of the chunk, or to clone it (section 4.5).
abbrev pub ToldHoldersWereOrdered : Type 0
ToldHoldersWereOrdered =
    (config : Config) (servers clients : ℕ) (w : WorldState) → IsReached config servers clients w
    → (place number : ℕ) (m : Message) (l : Location) → element_at w.sent place ≡ Some m → m.body ≡ body.Told number (Some l)
    → (n : ℕ) (x : Holder) → element_at l.holders n ≡ Some x → WasOrdered w.sent x.server.0 l.handle.0 x.version.0

-- At this index of the file this chunk stands, in the log, or at a master that is up.
abbrev pub StandsThere : WorldState → ℕ → ℕ → ℕ → Type 0
StandsThere w file index handle = (element_at (handles_of (replayed w.master.disk).table file) index ≡ Some handle) ⊎ (IsTrue w.master.up × (element_at (handles_of w.master.logged.table file) index ≡ Some handle))

-- Where clocks are kept, the order of a chunk that was told with a granted round is, up to the version of each holder that was told, that of the chunk that stands at its place in the file, as long as the file is there, whichever copies took the place since (sections 3.1 and 3.4).
abbrev pub ToldHoldersStandForTheChunk : Type 0
ToldHoldersStandForTheChunk =
    (config : Config) (servers clients : ℕ) (w : WorldState) → IsReached config servers clients w → IsTrue w.observer.are_clocks_kept
    → (client file : ℕ) (l : Location) (place : ℕ) → IsToldAt w.sent client file l place → (n : ℕ) (x : Holder) → element_at l.holders n ≡ Some x
    → (handle : ℕ) → StandsThere w file l.index handle
    → up_to x.version.0 (order_of w.observer l.handle.0) ≡ up_to x.version.0 (order_of w.observer handle)
