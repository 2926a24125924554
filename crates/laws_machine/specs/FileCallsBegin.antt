-- A call on a file begins at a client and at the machine (sections 2.3, 2.4 and 2.7.1).
use Rattle.std.specs.Prelude.{◌≡◌, ℕ, Some, None, IsFalse}
use Rattle.std.specs.FinMap as table
use Rattle.gfs_types.specs.declared.config.Config.{Config}
use Rattle.gfs_types.specs.declared.call.Call.{Call}
use Rattle.gfs_types.specs.declared.answer.Answer.TheVariants as answer
use Rattle.gfs_types.specs.declared.refusal.Refusal.TheVariants.{NoMemory}
use Rattle.relaxed_file.specs.Machine.{Machine}
use Rattle.relaxed_file.specs.NameStep.{is_name_call}
use Rattle.relaxed_file.specs.Run.{Invoke, Allows, after, IsReached}
use Rattle.machine_names.specs.NameProjections.{AreNamesOf}
use Rattle.protocol.specs.Client.{ClientState, ClientDoing, client_begins, answers}
use Rattle.protocol.specs.ClientStep.{client_at, client_call_goes}
use Rattle.laws_machine.specs.FileClients.{IsFileClient, IsFileOpen, IsFollowed}

-- the call is open at the machine, and the client goes on with it, or is answered at once
pub record IsBegun (m : Machine) (client : ℕ) (c : Call) (d : ClientDoing) : Type 0 where
  pub allowed : Allows m (Invoke client c)
  pub names : (n : Machine) → AreNamesOf m n → AreNamesOf (after m (Invoke client c)) n
  pub followed : IsFollowed (after m (Invoke client c)) client d

-- A call on a file begins where none is open: it asks, is refused as its descriptor isn't open or its range is too long, is done as it is empty, or closes the descriptor; or memory is refused, and nothing changed.
abbrev pub FileCallsAreBegun : Type 0
FileCallsAreBegun =
    (config : Config) (m : Machine) → IsReached config m → (client : ℕ) (s : ClientState) → IsFileClient m client s → s.current ≡ None
    → ((fd file : ℕ) → table.get s.descriptors fd ≡ Some file → IsFileOpen s file)
    → (moment : ℕ) (c : Call) → IsFalse (is_name_call c)
    → IsBegun m client c (client_call_goes s moment c) × IsBegun m client c (answers (client_begins (client_at s moment)) (answer.Refused NoMemory))
