-- Laws of every lawful list of events on versions that servers copy from each other, that public functions of this crate state.
use Rattle.std.specs.Prelude.{◌≡◌, ℕ, List, Some}
use Rattle.gfs_types.specs.declared.config.Config.{Config}
use Rattle.messages.specs.declared.message.Message.{Message}
use Rattle.protocol.specs.Tables.{element_at}
use Rattle.protocol.specs.World.{WorldState, IsReached}
use Rattle.laws_base.specs.Given.{version_given}
use Rattle.laws_versions.specs.ToldVersions.{WasOrdered}
use Rattle.laws_versions.specs.ClonedVersions.{version_copied}

-- one of the messages is an order that gives a server this version of the chunk
abbrev pub IsGivenBySome : List Message → ℕ → ℕ → Type 0
IsGivenBySome sent handle version = (place : ℕ) × (m : Message) × (element_at sent place ≡ Some m) × (version_given m.body ≡ Some (handle, version))

-- Each version that a Clone, a CopyAsk or an Image names was given to a server by an order (section 4.3).
abbrev pub CopiedVersionsWereGiven : Type 0
CopiedVersionsWereGiven =
    (config : Config) (servers clients : ℕ) (w : WorldState) → IsReached config servers clients w
    → (place : ℕ) (m : Message) → element_at w.sent place ≡ Some m → (handle version : ℕ) → version_copied m.body ≡ Some (handle, version) → IsGivenBySome w.sent handle version

-- So was each version that a server was ordered to have, or to clone (sections 3.1 and 4.3).
abbrev pub OrderedVersionsWereGiven : Type 0
OrderedVersionsWereGiven =
    (config : Config) (servers clients : ℕ) (w : WorldState) → IsReached config servers clients w
    → (server handle version : ℕ) → WasOrdered w.sent server handle version → IsGivenBySome w.sent handle version
