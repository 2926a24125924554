-- A client's step for its open call on a file, at the machine (sections 2.4, 2.7.1, 3.1 and 3.3).
use Rattle.std.specs.Prelude.{◌≡◌, ℕ, Some}
use Rattle.messages.specs.declared.event.NodeInput.{NodeInput}
use Rattle.relaxed_file.specs.Machine.{Machine}
use Rattle.client_state.specs.declared.call.CurrentCall.{CurrentCall}
use Rattle.protocol.specs.Client.{ClientState}
use Rattle.protocol.specs.ClientStep.{client_goes}
use Rattle.laws_base.specs.FileCalls.{IsOfFile}
use Rattle.laws_machine.specs.FileClients.{IsFileClient, IsFileOpen, IsSaid, IsFollowed}

-- On a tick, or on a message of which the machine has what it says: the client notes a round that it is told, asks, is told to wait, reads, pushes, has a part placed or refused, gives up an attempt or the call, or is answered.
abbrev pub FileStepsAreFollowed : Type 0
FileStepsAreFollowed =
    (m : Machine) (client : ℕ) (s : ClientState) (x : CurrentCall) → IsFileClient m client s → s.current ≡ Some x → IsOfFile x.stage → IsFileOpen s x.file.0
    → (moment : ℕ) (i : NodeInput) → IsSaid m client s i → IsFollowed m client (client_goes s moment i)
