-- The master answers a name call only to the client that asked, under the number of its request (sections 2.6.3 and 3.4).
use Rattle.std.specs.Prelude.{◌≡◌, ◌⊎◌, ℕ, List, Some, Contains, IsTrue}
use Rattle.gfs_types.specs.declared.config.Config.{Config}
use Rattle.messages.specs.declared.event.NodeInput.{NodeInput}
use Rattle.messages.specs.declared.event.NodeInput.TheVariants as input
use Rattle.messages.specs.declared.message.Body.{Body}
use Rattle.messages.specs.declared.message.Body.TheVariants as body
use Rattle.messages.specs.declared.message.Message.{Message}
use Rattle.protocol.specs.Tables.{element_at}
use Rattle.protocol.specs.Choice.{Choice}
use Rattle.protocol.specs.Sending.{client_number}
use Rattle.protocol.specs.Master.{PendingSnapshot}
use Rattle.protocol.specs.MasterStep.{master_step}
use Rattle.protocol.specs.World.{WorldState, IsReached}

-- a request on names under this number
abbrev pub IsRequestUnder : ℕ → Body → Type 0
IsRequestUnder number (body.Name n deadline c) = n ≡ number
IsRequestUnder number (body.Look n c) = n ≡ number
IsRequestUnder number other = ⊥

-- the message that came is such a request, of this client
abbrev pub Asks : NodeInput → ℕ → ℕ → Type 0
Asks (input.Deliver x) client number = (client_number x.sender ≡ client) × IsRequestUnder number x.body
Asks input.Tick client number = ⊥

-- such a snapshot of this client waits
abbrev pub Waits : List PendingSnapshot → ℕ → ℕ → Type 0
Waits snapshots client number = (s : PendingSnapshot) × Contains snapshots s × (s.client ≡ client) × (s.number ≡ number)

-- Where it answers a name call, the client asked under this number: now, or for a snapshot that waits.
abbrev pub WasAsked : NodeInput → List PendingSnapshot → ℕ → Body → Type 0
WasAsked i snapshots client (body.Named number reply) = Asks i client number ⊎ Waits snapshots client number
WasAsked i snapshots client other = Unit {0}

-- What a step of a master that is up sends.
abbrev pub NamedRepliesWereAskedFor : Type 0
NamedRepliesWereAskedFor =
    (config : Config) (servers clients : ℕ) (w : WorldState) → IsReached config servers clients w → IsTrue w.master.up
    → (moment : ℕ) (i : NodeInput) (choice : Choice) (place : ℕ) (x : Message) → element_at (master_step w.master moment i choice).out.sent place ≡ Some x
    → WasAsked i w.master.snapshots (client_number x.receiver) x.body
