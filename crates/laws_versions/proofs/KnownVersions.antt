-- What the master keeps of a server's versions that server said, and so it refuses the order that gave it the version.
use Rattle.std.proofs.Common.{◌≡◌, ℕ, suc, List, [], ◌++◌, refl, ap, subst, arith}
use Rattle.std.specs.Prelude.{IsTrue}
use Rattle.gfs_types.specs.declared.config.Config.{Config}
use Rattle.gfs_types.specs.declared.ids.Node.{Node}
use Rattle.gfs_types.specs.declared.ids.Node.TheVariants as node
use Rattle.messages.specs.declared.event.NodeInput.{NodeInput}
use Rattle.messages.specs.declared.message.Message.{Message}
use Rattle.protocol.specs.Tables.{Table}
use Rattle.protocol.specs.Sending.{the_server, server_number}
use Rattle.protocol.specs.Master.{MasterState}
use Rattle.protocol.specs.MasterStep.{master_step, master_restart}
use Rattle.laws_base.proofs.MessagesSent.{IsSent, sent_before}
use Rattle.protocol.specs.World.{WorldState, stamped, IsReached}
use Rattle.laws_base.proofs.SentReached.{IsInputSent, sent_reached}
use Rattle.laws_versions.specs.ToldVersions.{SaysVersion}
use Rattle.laws_versions.specs.KnownVersions.{KnownVersionsRefuseTheirOrder}
use Rattle.laws_versions.proofs.HoldersKnown.{AreKnownBy, none_known, IsInputSaid, step_known, restart_known}
use Rattle.laws_versions.proofs.SaidVersions.{said_versions_refuse_their_order}

-- one of the messages says that the server of this number has this version
abbrev WasSaid : List Message → ℕ → ℕ → ℕ → Type 0
WasSaid sent server handle version = (word : Message) × IsSent sent word × (server_number word.sender ≡ server) × SaysVersion word.body handle version

-- what is kept of servers was said
abbrev AreHeld : List Message → Table (Table ℕ) → Type 0
AreHeld sent holders = AreKnownBy (WasSaid sent) holders

held_more : (sent ms : List Message) (holders : Table (Table ℕ)) → AreHeld sent holders → AreHeld (sent ++ ms) holders
held_more sent ms holders h server handle version is = let was = h server handle version is in (was.0, sent_before sent ms was.0 was.1, was.2, was.3)

input_said : (sent : List Message) (i : NodeInput) → IsInputSent sent i → IsInputSaid (WasSaid sent) i
input_said sent i is x came handle version says = (x, subst (λ (j : NodeInput). IsInputSent sent j) came is, refl, says)

-- worlds

abbrev AreKnown : List Message → MasterState → Type 0
AreKnown sent m = IsTrue m.up → AreHeld sent m.holders

known_reached : (config : Config) (servers clients : ℕ) (w : WorldState) → IsReached config servers clients w → AreKnown w.sent w.master
known_reached config servers clients w r =
    sent_reached AreKnown
    (record {
      new = λ c n up. none_known (WasSaid []);
      quiet = λ sent ms k m quiet h up. held_more sent (stamped k ms) m.holders (h up);
      steps = λ sent k m moment i choice is h up.
          held_more sent (stamped k (master_step m moment i choice).out.sent) (master_step m moment i choice).state.holders (step_known (WasSaid sent) m moment i choice (input_said sent i is) h up);
      restarts = λ sent k m moment choice h up.
          held_more sent (stamped k (master_restart m moment choice).out.sent) (master_restart m moment choice).state.holders (restart_known (WasSaid sent) m moment choice up);
    }) config servers clients w r

-- a server has its number
server_is : (n : Node) (index : ℕ) → server_number n ≡ suc index → n ≡ the_server (suc index)
server_is node.Master index same = absurd (let none : 0 ≡ suc index = same in omega (arith, none))
server_is (node.Server s) index same = ap the_server same
server_is (node.Client c) index same = absurd (let none : 0 ≡ suc index = same in omega (arith, none))

pub known_versions_refuse_their_order : KnownVersionsRefuseTheirOrder
known_versions_refuse_their_order config servers clients w r up index s there handle version held =
    let was : WasSaid w.sent (suc index) handle version = known_reached config servers clients w r up (suc index) handle version held in
    said_versions_refuse_their_order config servers clients w r (was.1).0 was.0 (was.1).1 handle version was.3 index s (server_is (was.0).sender index was.2) there
