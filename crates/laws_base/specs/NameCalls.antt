-- A Name or a Look under the number of its client's open call asks for that call (sections 2.7.2 and 3.4).
use Rattle.std.specs.Prelude.{◌≡◌, ℕ, suc, ◌≤◌, Some, IsTrue, IsFalse}
use Rattle.gfs_types.specs.declared.config.Config.{Config}
use Rattle.messages.specs.declared.message.Message.{Message}
use Rattle.messages.specs.declared.message.Body.{Body}
use Rattle.messages.specs.declared.message.Body.TheVariants as body
use Rattle.relaxed_file.specs.NameStep.{is_look}
use Rattle.client_state.specs.declared.call.CurrentCall.{CurrentCall}
use Rattle.protocol.specs.Tables.{element_at}
use Rattle.protocol.specs.Sending.{the_client}
use Rattle.protocol.specs.Client.{ClientState}
use Rattle.protocol.specs.World.{WorldState, IsReached}

-- A Name changes names and a Look doesn't. Where its number is that of the client's open call, it asks for this call, a Name by no later deadline than the call's last one.
abbrev pub AsksForTheCall : ClientState → Body → Type 0
AsksForTheCall s (body.Name number deadline c) =
    IsFalse (is_look c) × ((current : CurrentCall) → s.current ≡ Some current → current.number ≡ number → (current.asked ≡ c) × (deadline.0 ≤ current.deadline.0))
AsksForTheCall s (body.Look number c) = IsTrue (is_look c) × ((current : CurrentCall) → s.current ≡ Some current → current.number ≡ number → current.asked ≡ c)
AsksForTheCall s other = Unit {0}

-- What a client that is up has sent.
abbrev pub NameRequestsAskForTheirCall : Type 0
NameRequestsAskForTheirCall =
    (config : Config) (servers clients : ℕ) (w : WorldState) → IsReached config servers clients w
    → (index : ℕ) (s : ClientState) → element_at w.clients index ≡ Some s → IsTrue s.up
    → (place : ℕ) (m : Message) → element_at w.sent place ≡ Some m → m.sender ≡ the_client (suc index) → AsksForTheCall s m.body
