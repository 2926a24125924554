-- The files of a client's descriptors and of its open call are open (section 2.4).
use Rattle.std.specs.Prelude.{◌≡◌, ℕ, Some}
use Rattle.std.specs.FinMap as table
use Rattle.gfs_types.specs.declared.config.Config.{Config}
use Rattle.client_state.specs.declared.call.CurrentCall.{CurrentCall}
use Rattle.protocol.specs.Tables.{element_at}
use Rattle.protocol.specs.Client.{ClientState}
use Rattle.protocol.specs.World.{WorldState, IsReached}
use Rattle.laws_base.specs.FileCalls.{IsOfFile}
use Rattle.laws_machine.specs.FileClients.{IsFileOpen}

-- those of its descriptors, and that of a call on a file
pub record AreFilesOpen (s : ClientState) : Type 0 where
  pub descriptors : (fd file : ℕ) → table.get s.descriptors fd ≡ Some file → IsFileOpen s file
  pub call : (x : CurrentCall) → s.current ≡ Some x → IsOfFile x.stage → IsFileOpen s x.file.0

-- So it is of each client, in each world that a lawful list of events reaches.
abbrev pub ClientsFilesAreOpen : Type 0
ClientsFilesAreOpen = (config : Config) (servers clients : ℕ) (w : WorldState) → IsReached config servers clients w → (index : ℕ) (s : ClientState) → element_at w.clients index ≡ Some s → AreFilesOpen s
