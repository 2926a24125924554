-- A client's step by what its open call is of: calls on files open no descriptor and ask for no name, and a name call asks for itself (sections 2.4, 2.7.1 and 2.7.2).
use Rattle.std.specs.Prelude.{◌≡◌, ℕ, max, Option, Some, None, IsTrue, IsFalse}
use Rattle.gfs_types.specs.declared.call.Call.{Call}
use Rattle.gfs_types.specs.declared.answer.Answer.{Answer}
use Rattle.messages.specs.declared.event.NodeInput.{NodeInput}
use Rattle.messages.specs.declared.message.Body.{Body}
use Rattle.messages.specs.declared.message.Body.TheVariants as body
use Rattle.messages.specs.declared.message.Message.{Message}
use Rattle.relaxed_file.specs.NameStep.{is_name_call, is_look}
use Rattle.client_state.specs.declared.call.CurrentCall.{CurrentCall}
use Rattle.client_state.specs.declared.call.Stage.{Stage}
use Rattle.client_state.specs.declared.call.Stage.TheVariants.{AskedNames}
use Rattle.protocol.specs.Client.{ClientState, ClientDoing}
use Rattle.protocol.specs.ClientStep.{client_goes, client_call_goes}

-- it waits for no request on names
abbrev pub IsOfFile : Stage → Type 0
IsOfFile AskedNames = ⊥
IsOfFile other = Unit {0}

-- it asks for no name, and answers no name call
abbrev pub IsNoWordOfNames : Body → Type 0
IsNoWordOfNames (body.Name number deadline c) = ⊥
IsNoWordOfNames (body.Look number c) = ⊥
IsNoWordOfNames (body.Named number reply) = ⊥
IsNoWordOfNames other = Unit {0}

-- a call on a file goes on, or is answered
abbrev pub IsFileCall : Option CurrentCall → Option Answer → Type 0
IsFileCall None answer = (reply : Answer) × (answer ≡ Some reply)
IsFileCall (Some c) answer = IsOfFile c.stage × (answer ≡ None)

pub record IsFileStep (s : ClientState) (moment : ℕ) (d : ClientDoing) : Type 0 where
  pub config : d.client.config ≡ s.config
  pub now : d.client.now ≡ max s.now moment
  pub count : d.client.fd_count ≡ s.fd_count
  pub says : (m : Message) → d.sent ≡ Some m → IsNoWordOfNames m.body
  pub call : IsFileCall d.client.current d.answer

abbrev pub FileCallsBegin : Type 0
FileCallsBegin = (s : ClientState) (moment : ℕ) (c : Call) → IsFalse (is_name_call c) → IsFileStep s moment (client_call_goes s moment c)

abbrev pub FileCallsGoOn : Type 0
FileCallsGoOn = (s : ClientState) (moment : ℕ) (i : NodeInput) (c : CurrentCall) → s.current ≡ Some c → IsOfFile c.stage → IsFileStep s moment (client_goes s moment i)

-- the client's call of this number is open, waits for the master, and is this one
abbrev pub IsOpenCall : ClientState → ℕ → Call → Type 0
IsOpenCall s number c = (current : CurrentCall) × (s.current ≡ Some current) × (current.stage ≡ AskedNames) × (current.number ≡ number) × (current.asked ≡ c)

-- A Name asks for an open call that changes names, and a Look for one that doesn't.
abbrev pub IsForTheCall : ClientState → Body → Type 0
IsForTheCall s (body.Name number deadline c) = IsFalse (is_look c) × IsOpenCall s number c
IsForTheCall s (body.Look number c) = IsTrue (is_look c) × IsOpenCall s number c
IsForTheCall s other = IsNoWordOfNames other

pub record IsNameStep (s : ClientState) (moment : ℕ) (d : ClientDoing) : Type 0 where
  pub config : d.client.config ≡ s.config
  pub now : d.client.now ≡ max s.now moment
  pub says : (m : Message) → d.sent ≡ Some m → IsForTheCall d.client m.body

abbrev pub NameCallsAskFirst : Type 0
NameCallsAskFirst = (s : ClientState) (moment : ℕ) (c : Call) → IsTrue (is_name_call c) → IsNameStep s moment (client_call_goes s moment c)

abbrev pub NameCallsAskAgain : Type 0
NameCallsAskAgain = (s : ClientState) (moment : ℕ) (i : NodeInput) (c : CurrentCall) → s.current ≡ Some c → c.stage ≡ AskedNames → IsNameStep s moment (client_goes s moment i)
