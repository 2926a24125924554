-- What clients say, and under which numbers they are answered (sections 2.3 and 3.1).
use Rattle.std.specs.Prelude.{◌≡◌, ℕ, suc, ◌≤◌, Some, IsTrue}
use Rattle.gfs_types.specs.declared.config.Config.{Config}
use Rattle.gfs_types.specs.declared.call.Call.{Call}
use Rattle.gfs_types.specs.declared.refusal.Refusal.TheVariants.{NoLease}
use Rattle.messages.specs.declared.event.NodeInput.{NodeInput}
use Rattle.messages.specs.declared.message.Body.{Body}
use Rattle.messages.specs.declared.message.Body.TheVariants as body
use Rattle.messages.specs.declared.message.Message.{Message}
use Rattle.client_state.specs.declared.call.CurrentCall.{CurrentCall}
use Rattle.protocol.specs.Choice.{Choice}
use Rattle.protocol.specs.Tables.{element_at}
use Rattle.protocol.specs.Sending.{the_client}
use Rattle.protocol.specs.Client.{ClientState}
use Rattle.protocol.specs.ClientStep.{client_step, client_call}
use Rattle.protocol.specs.World.{WorldState, IsReached}

-- it tells no client of a chunk, and of nothing that was asked of one
abbrev pub IsNoTelling : Body → Type 0
IsNoTelling (body.Told number location) = ⊥
IsNoTelling (body.Refused number refusal) = ⊥
IsNoTelling (body.Done id place) = ⊥
IsNoTelling (body.Bytes number bytes) = ⊥
IsNoTelling (body.LenIs number count) = ⊥
IsNoTelling other = Unit {0}

-- a step or a call of a client in this state
abbrev pub ClientsTellNothing : Type 0
ClientsTellNothing =
    (s : ClientState) → ((c : CurrentCall) → s.current ≡ Some c → c.number ≤ s.call_count) → (moment : ℕ) (choice : Choice) (place : ℕ) (m : Message)
    → ((i : NodeInput) → element_at (client_step s moment i choice).out.sent place ≡ Some m → IsNoTelling m.body)
    × ((c : Call) → element_at (client_call s moment c choice).out.sent place ≡ Some m → IsNoTelling m.body)

-- The number is one that the client used; of a refusal for want of a lease, which leaves the attempt open, nothing is said.
abbrev pub IsOfUsed : ℕ → Body → Type 0
IsOfUsed used (body.Told number location) = number ≤ used
IsOfUsed used (body.Refused number NoLease) = Unit {0}
IsOfUsed used (body.Refused number refusal) = number ≤ used
IsOfUsed used (body.Bytes number bytes) = number ≤ used
IsOfUsed used (body.LenIs number count) = number ≤ used
IsOfUsed used other = Unit {0}

-- What is answered a client that is up has a number that it used.
abbrev pub AnswersCarryUsedNumbers : Type 0
AnswersCarryUsedNumbers =
    (config : Config) (servers clients : ℕ) (w : WorldState) → IsReached config servers clients w → (index : ℕ) (s : ClientState) → element_at w.clients index ≡ Some s → IsTrue s.up
    → (place : ℕ) (m : Message) → element_at w.sent place ≡ Some m → m.receiver ≡ the_client (suc index) → IsOfUsed s.number m.body
