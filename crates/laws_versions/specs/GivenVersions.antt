-- Laws of every lawful list of events on the orders that give servers a version, that public functions of this crate state.
use Rattle.std.specs.Prelude.{◌≡◌, ℕ, List, Some, IsTrue}
use Rattle.std.specs.FinMap as table
use Rattle.gfs_types.specs.declared.config.Config.{Config}
use Rattle.gfs_types.specs.declared.ids.Moment.{Moment}
use Rattle.gfs_types.specs.declared.ids.OrderNo.{OrderNo}
use Rattle.messages.specs.declared.message.Message.{Message}
use Rattle.protocol.specs.Tables.{element_at, has_number}
use Rattle.protocol.specs.Sending.{the_server, handle_of, version_of}
use Rattle.protocol.specs.Master.{VersionAttempt}
use Rattle.protocol.specs.World.{WorldState, IsReached}
use Rattle.laws_base.specs.Given.{version_given}
use Rattle.laws_base.specs.Laws.{IsGrantBody}

-- the message went to one of these servers
abbrev pub IsToOneOf : List ℕ → Message → Type 0
IsToOneOf servers m = (server : ℕ) × (m.receiver ≡ the_server server) × IsTrue (has_number servers server)

-- Each order that gives a server a version which is granted went to a member of its Grant: members alone are ordered to hold it (section 3.1).
abbrev pub MembersAloneAreGivenAVersion : Type 0
MembersAloneAreGivenAVersion =
    (config : Config) (servers clients : ℕ) (w : WorldState) → IsReached config servers clients w
    → (handle version place : ℕ) (grant : Message) (order : OrderNo) (end_moment : Moment) (members : List ℕ)
    → element_at w.sent place ≡ Some grant → IsGrantBody order (handle_of handle) (version_of version) end_moment members grant.body
    → (other : ℕ) (m : Message) → element_at w.sent other ≡ Some m → version_given m.body ≡ Some (handle, version) → IsToOneOf members m

-- Each order that gives a server a version which is attempted went to a server of the attempt, and no Grant of it was sent (section 3.1).
abbrev pub AttemptsAreGivenToTheirServers : Type 0
AttemptsAreGivenToTheirServers =
    (config : Config) (servers clients : ℕ) (w : WorldState) → IsReached config servers clients w → IsTrue w.master.up
    → (handle : ℕ) (a : VersionAttempt) → table.get w.master.attempts handle ≡ Some a
    → (place : ℕ) (m : Message) → element_at w.sent place ≡ Some m
    → (version_given m.body ≡ Some (handle, a.version) → IsToOneOf a.servers m)
    × ((order : OrderNo) (end_moment : Moment) (members : List ℕ) → IsGrantBody order (handle_of handle) (version_of a.version) end_moment members m.body → ⊥)
