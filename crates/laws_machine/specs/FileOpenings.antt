-- A client's name calls beside what it has of files: Open gives the next descriptor and forgets the notes of its file, and the others leave all (sections 2.4 and 2.7.1).
use Rattle.std.specs.Prelude.{◌≡◌, ◌⊎◌, ℕ, suc, Option, Some, None, IsTrue}
use Rattle.gfs_types.specs.declared.call.Call.{Call}
use Rattle.gfs_types.specs.declared.answer.Answer.{Answer}
use Rattle.gfs_types.specs.declared.answer.Answer.TheVariants as answer
use Rattle.gfs_types.specs.declared.ids.FileId.{FileId}
use Rattle.gfs_types.specs.declared.refusal.Refusal.TheVariants.{NoMemory}
use Rattle.gfs_types.specs.declared.shape.Shape.{Shape}
use Rattle.messages.specs.declared.event.NodeInput.{NodeInput}
use Rattle.messages.specs.declared.event.NodeInput.TheVariants as input
use Rattle.messages.specs.declared.message.Body.TheVariants as body
use Rattle.messages.specs.declared.message.NameReply.TheVariants.{Opened}
use Rattle.relaxed_file.specs.Machine.{Machine, OpenCall, IsOpen}
use Rattle.relaxed_file.specs.NameStep.{is_name_call}
use Rattle.relaxed_file.specs.Run.{Invoke, Return, ReturnFd, after}
use Rattle.client_state.specs.declared.call.CurrentCall.{CurrentCall}
use Rattle.client_state.specs.declared.call.Stage.TheVariants.{AskedNames}
use Rattle.protocol.specs.Client.{ClientState, ClientDoing, client_begins, answers}
use Rattle.protocol.specs.ClientStep.{client_at, client_goes, client_call_goes}
use Rattle.laws_names.specs.NameAnswers.{TellsFile}
use Rattle.laws_machine.specs.FileClients.{IsFileClient}
use Rattle.laws_machine.specs.ToldShapes.{IsMadeWith}

-- A name call begins, or memory is refused and it is answered so.
abbrev pub NameCallsKeepFiles : Type 0
NameCallsKeepFiles =
    (m : Machine) (client : ℕ) (s : ClientState) → IsFileClient m client s → s.current ≡ None → (moment : ℕ) (c : Call) → IsTrue (is_name_call c)
    → IsFileClient (after m (Invoke client c)) client (client_call_goes s moment c).client
    × IsFileClient (after (after m (Invoke client c)) (Return client (answer.Refused NoMemory))) client (answers (client_begins (client_at s moment)) (answer.Refused NoMemory)).client

-- What the step comes to: the call waits, or has this answer, or is answered the next descriptor of the file that it was told.
abbrev pub IsAnsweredAs : Machine → ℕ → ℕ → NodeInput → ClientDoing → Option Answer → Type 0
IsAnsweredAs m client number i d None = IsFileClient m client d.client
IsAnsweredAs m client number i d (Some reply) =
    IsFileClient (after m (Return client reply)) client d.client
    ⊎ ((file : FileId) × TellsFile i number file × (reply ≡ answer.Fd (record { 0 = suc (m.clients client).fd_count }))
    × IsFileClient (after m (ReturnFd client (suc (m.clients client).fd_count) file.0)) client d.client)

-- what comes tells of a file only as it was made
abbrev pub TellsAsMade : Machine → NodeInput → Type 0
TellsAsMade m (input.Deliver y) = (number : ℕ) (file : FileId) (shape : Shape) → y.body ≡ body.Named number (Opened file shape) → IsMadeWith m file.0 shape
TellsAsMade m input.Tick = Unit {0}

-- A step of a call on names, where what comes is so.
abbrev pub NameStepsKeepFiles : Type 0
NameStepsKeepFiles =
    (m : Machine) (client : ℕ) (s : ClientState) (x : CurrentCall) → IsFileClient m client s → s.current ≡ Some x → x.stage ≡ AskedNames
    → (o : OpenCall) → IsOpen m client o → IsTrue (is_name_call o.asked.call)
    → (moment : ℕ) (i : NodeInput) → TellsAsMade m i → IsAnsweredAs m client x.number i (client_goes s moment i) (client_goes s moment i).answer
