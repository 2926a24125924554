-- What else the machine does leaves a client that is up as it was, and what it is told while it waits (sections 2.4 and 2.7.1).
use Rattle.std.specs.Prelude.{◌≡◌, ℕ}
use Rattle.gfs_types.specs.declared.config.Config.{Config}
use Rattle.gfs_types.specs.declared.refusal.Refusal.TheVariants.{TooLong}
use Rattle.messages.specs.declared.event.NodeInput.{NodeInput}
use Rattle.messages.specs.declared.event.NodeInput.TheVariants as input
use Rattle.messages.specs.declared.message.Body.{Body}
use Rattle.messages.specs.declared.message.Body.TheVariants as body
use Rattle.relaxed_file.specs.Machine.{Machine}
use Rattle.relaxed_file.specs.Run.{Action, Invoke, Return, ReturnFd, Note, Allows, after, IsReached, after_all}
use Rattle.protocol.specs.Client.{ClientState, ClientDoing}
use Rattle.laws_machine.specs.FileClients.{IsFileClient, IsSaid, IsFollowed}

-- no call or answer of this client, and no note
abbrev pub IsOfOthers : ℕ → Action → Type 0
IsOfOthers client (Invoke who asked) = client ≡ who → ⊥
IsOfOthers client (Return who reply) = client ≡ who → ⊥
IsOfOthers client (ReturnFd who fd file) = client ≡ who → ⊥
IsOfOthers client (Note who file index round count) = client ≡ who → ⊥
IsOfOthers client other = Unit {0}

-- it stays so, whatever is placed: that a range is too long is refused only while nothing of the call is placed
abbrev pub IsFirm : Body → Type 0
IsFirm (body.Refused number TooLong) = ⊥
IsFirm other = Unit {0}

abbrev pub IsFirmInput : NodeInput → Type 0
IsFirmInput input.Tick = Unit {0}
IsFirmInput (input.Deliver y) = IsFirm y.body

-- In a run: what it does of names and chunks, what it offers, what it looks at for this client, and all that it does for the others.
abbrev pub FileClientsStay : Type 0
FileClientsStay =
    (config : Config) (m : Machine) → IsReached config m → (action : Action) → Allows m action → (client : ℕ) → IsOfOthers client action → (s : ClientState) → IsFileClient m client s
    → IsFileClient (after m action) client s × ((i : NodeInput) → IsFirmInput i → IsSaid m client s i → IsSaid (after m action) client s i)

-- So do the actions by which the machine follows another client's step.
abbrev pub OtherClientsStay : Type 0
OtherClientsStay =
    (config : Config) (m : Machine) → IsReached config m → (client : ℕ) (d : ClientDoing) (f : IsFollowed m client d) (other : ℕ) → (other ≡ client → ⊥) → (s : ClientState) → IsFileClient m other s
    → IsFileClient (after_all m f.actions) other s × ((i : NodeInput) → IsFirmInput i → IsSaid m other s i → IsSaid (after_all m f.actions) other s i)
