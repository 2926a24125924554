-- Laws of every lawful list of events on the versions that servers say they have and that the master keeps of them, that public functions of this crate state.
use Rattle.std.specs.Prelude.{◌≡◌, ℕ, suc, Some, IsTrue}
use Rattle.gfs_types.specs.declared.config.Config.{Config}
use Rattle.messages.specs.declared.message.Message.{Message}
use Rattle.protocol.specs.Tables.{element_at}
use Rattle.protocol.specs.Sending.{the_server}
use Rattle.protocol.specs.Master.{version_held}
use Rattle.protocol.specs.Server.{ServerState}
use Rattle.protocol.specs.World.{WorldState, IsReached}
use Rattle.laws_versions.specs.ToldVersions.{SaysVersion}
use Rattle.laws_versions.specs.GivenOnce.{RefusesItsOrder}

-- A server that said that it has a version, by a Recorded, a Cloned or a line of a Report, refuses each order that gives it that version (sections 3.1, 4.3 and 4.5).
abbrev pub SaidVersionsRefuseTheirOrder : Type 0
SaidVersionsRefuseTheirOrder =
    (config : Config) (servers clients : ℕ) (w : WorldState) → IsReached config servers clients w
    → (place : ℕ) (word : Message) → element_at w.sent place ≡ Some word → (handle version : ℕ) → SaysVersion word.body handle version
    → (index : ℕ) (s : ServerState) → word.sender ≡ the_server (suc index) → element_at w.servers index ≡ Some s → RefusesItsOrder w.sent index s handle version

-- So does each server of which a master that is up keeps that version (section 4.5).
abbrev pub KnownVersionsRefuseTheirOrder : Type 0
KnownVersionsRefuseTheirOrder =
    (config : Config) (servers clients : ℕ) (w : WorldState) → IsReached config servers clients w → IsTrue w.master.up
    → (index : ℕ) (s : ServerState) → element_at w.servers index ≡ Some s → (handle version : ℕ) → version_held w.master handle (suc index) ≡ Some version → RefusesItsOrder w.sent index s handle version
