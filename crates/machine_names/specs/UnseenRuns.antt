-- What is done to names alone, while clients see nothing, leaves their calls, how many descriptors they have and the clock (section 4.1).
use Rattle.std.specs.Prelude.{◌≡◌, ℕ, [], Option, Some, None}
use Rattle.relaxed_file.specs.Machine.{Machine, Client, OpenCall}
use Rattle.relaxed_file.specs.Run.{visible}
use Rattle.machine_names.specs.NameRuns.{LeadsByNames}

-- The call that was open is open, and none is where none was.
abbrev pub IsSameCall : Option OpenCall → Option OpenCall → Type 0
IsSameCall None now = now ≡ None
IsSameCall (Some c) now = (later : OpenCall) × (now ≡ Some later) × (later.number ≡ c.number) × (later.asked ≡ c.asked)

pub record IsLeft (before now : Client) : Type 0 where
  pub call : IsSameCall before.open_call now.open_call
  pub count : now.fd_count ≡ before.fd_count

pub record AreLeft (m n : Machine) : Type 0 where
  pub clock : n.clock ≡ m.clock
  pub settings : n.config ≡ m.config
  pub clients : (client : ℕ) → IsLeft (m.clients client) (n.clients client)

abbrev pub UnseenRunsLeaveClients : Type 0
UnseenRunsLeaveClients = (m n : Machine) (run : LeadsByNames m n) → visible run.0 ≡ [] → AreLeft m n
