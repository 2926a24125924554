-- Laws of every lawful list of events on what a version that the master gives follows, that public functions of this crate state.
use Rattle.std.specs.Prelude.{◌≡◌, ◌⊎◌, ℕ, ◌≤◌, ◌<◌, Some, IsTrue}
use Rattle.gfs_types.specs.declared.config.Config.{Config}
use Rattle.messages.specs.declared.message.Message.{Message}
use Rattle.protocol.specs.Tables.{element_at}
use Rattle.protocol.specs.Observer.{Placed, order_of}
use Rattle.protocol.specs.World.{WorldState, IsReached}
use Rattle.laws_base.specs.Laws.{grants_of}
use Rattle.laws_base.specs.Versions.{IsLeaseOver}
use Rattle.laws_base.specs.Given.{version_given}

-- Where clocks are kept, each lease of a version below one that an order gives a server is over, from the moment the order is sent (section 3.1).
abbrev pub LeasesBelowAreOver : Type 0
LeasesBelowAreOver =
    (config : Config) (servers clients : ℕ) (w : WorldState) → IsReached config servers clients w → IsTrue w.observer.are_clocks_kept
    → (place : ℕ) (m : Message) → element_at w.sent place ≡ Some m → (handle version : ℕ) → version_given m.body ≡ Some (handle, version)
    → (number : ℕ) → number < version → IsLeaseOver w handle number

-- it lies below each version of the chunk that an order gives a server
abbrev pub IsBelowGiven : WorldState → ℕ → ℕ → Type 0
IsBelowGiven w handle round = (place : ℕ) (m : Message) → element_at w.sent place ≡ Some m → (version : ℕ) → version_given m.body ≡ Some (handle, version) → round < version

-- The round of an entry was granted to its chunk, or lies below each version of the chunk that an order gives (sections 3.1 and 3.4).
abbrev pub EntriesLieBelowGivenVersions : Type 0
EntriesLieBelowGivenVersions =
    (config : Config) (servers clients : ℕ) (w : WorldState) → IsReached config servers clients w
    → (handle place : ℕ) (p : Placed) → element_at (order_of w.observer handle) place ≡ Some p
    → (1 ≤ grants_of handle p.entry.round w.sent) ⊎ IsBelowGiven w handle p.entry.round
