-- Laws of a step of a client on the shapes of its open files, that public functions of this crate state.
use Rattle.std.specs.Prelude.{◌≡◌, ◌⊎◌, ℕ, Some}
use Rattle.std.specs.FinMap as table
use Rattle.gfs_types.specs.declared.call.Call.{Call}
use Rattle.gfs_types.specs.declared.ids.FileId.{FileId}
use Rattle.gfs_types.specs.declared.shape.Shape.{Shape}
use Rattle.messages.specs.declared.event.NodeInput.{NodeInput}
use Rattle.messages.specs.declared.event.NodeInput.TheVariants as input
use Rattle.messages.specs.declared.message.Body.TheVariants as body
use Rattle.messages.specs.declared.message.Message.{Message}
use Rattle.messages.specs.declared.message.NameReply.TheVariants.{Opened}
use Rattle.client_state.specs.declared.kept.OpenFile.{OpenFile}
use Rattle.protocol.specs.Client.{ClientState}
use Rattle.protocol.specs.ClientStep.{client_goes, client_call_goes}

-- the file was open with this shape
abbrev pub HadShape : ClientState → ℕ → Shape → Type 0
HadShape s file shape = (old : OpenFile) × (table.get s.files file ≡ Some old) × (old.shape ≡ shape)

-- what came in is a Named that tells this shape of the file
pub record WasNamed (i : NodeInput) (file : ℕ) (shape : Shape) : Type 0 where
  pub message : Message
  pub number : ℕ
  pub named : FileId
  pub came : i ≡ input.Deliver message
  pub body_is : message.body ≡ body.Named number (Opened named shape)
  pub file_is : named.0 ≡ file

-- After a step a client's open file has the shape that it had, or the one that a Named tells which came in (section 2.4).
abbrev pub OpenShapesWereTold : Type 0
OpenShapesWereTold =
    (s : ClientState) (moment : ℕ) (i : NodeInput) (file : ℕ) (f : OpenFile) → table.get (client_goes s moment i).client.files file ≡ Some f
    → HadShape s file f.shape ⊎ WasNamed i file f.shape

-- A call changes none.
abbrev pub CallsKeepOpenShapes : Type 0
CallsKeepOpenShapes =
    (s : ClientState) (moment : ℕ) (c : Call) (file : ℕ) (f : OpenFile) → table.get (client_call_goes s moment c).client.files file ≡ Some f → HadShape s file f.shape
