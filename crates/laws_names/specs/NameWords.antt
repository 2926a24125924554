-- Who says what of names: clients ask, the master answers who asked, and servers say nothing of it (sections 2.4, 2.7.2 and 3.4).
use Rattle.std.specs.Prelude.{◌≡◌, ℕ, List, Some, IsTrue}
use Rattle.std.specs.List.{AllByRecursion}
use Rattle.gfs_types.specs.declared.config.Config.{Config}
use Rattle.gfs_types.specs.declared.ids.Node.{Node}
use Rattle.messages.specs.declared.message.Body.{Body}
use Rattle.messages.specs.declared.message.Body.TheVariants as body
use Rattle.messages.specs.declared.message.Message.{Message}
use Rattle.protocol.specs.Tables.{element_at}
use Rattle.protocol.specs.Sending.{the_client, client_number}
use Rattle.protocol.specs.Master.{PendingSnapshot}
use Rattle.protocol.specs.World.{WorldState, IsReached}
use Rattle.laws_names.specs.NamedReplies.{IsRequestUnder}

-- the client sent a request on names under this number
abbrev pub HasAsked : List Message → ℕ → ℕ → Type 0
HasAsked sent client number = (place : ℕ) × (x : Message) × (element_at sent place ≡ Some x) × (client_number x.sender ≡ client) × IsRequestUnder number x.body

-- where this answers a name call, the client asked under its number
abbrev pub IsAnswerToAsked : List Message → ℕ → Body → Type 0
IsAnswerToAsked sent client (body.Named number reply) = HasAsked sent client number
IsAnswerToAsked sent client other = Unit {0}

-- Each answer to a name call goes to a client that asked under its number.
abbrev pub NameAnswersWereAskedFor : Type 0
NameAnswersWereAskedFor =
    (config : Config) (servers clients : ℕ) (w : WorldState) → IsReached config servers clients w → (place : ℕ) (x : Message) → element_at w.sent place ≡ Some x
    → IsAnswerToAsked w.sent (client_number x.receiver) x.body

-- a request on names is said by a client
abbrev pub IsOfClient : Node → Body → Type 0
IsOfClient sender (body.Name number deadline c) = (client : ℕ) × (sender ≡ the_client client)
IsOfClient sender (body.Look number c) = (client : ℕ) × (sender ≡ the_client client)
IsOfClient sender other = Unit {0}

abbrev pub NameRequestsAreOfClients : Type 0
NameRequestsAreOfClients =
    (config : Config) (servers clients : ℕ) (w : WorldState) → IsReached config servers clients w → (place : ℕ) (x : Message) → element_at w.sent place ≡ Some x → IsOfClient x.sender x.body

abbrev pub IsNameBy : ℕ → ℕ → Body → Type 0
IsNameBy number deadline (body.Name n d c) = (n ≡ number) × (d.0 ≡ deadline)
IsNameBy number deadline other = ⊥

-- the snapshot's client sent a Name under its number, by its deadline
abbrev pub HasItsRequest : List Message → PendingSnapshot → Type 0
HasItsRequest sent s = (place : ℕ) × (x : Message) × (element_at sent place ≡ Some x) × (client_number x.sender ≡ s.client) × IsNameBy s.number s.deadline x.body

-- Of each snapshot that waits at a master that is up.
abbrev pub SnapshotsWaitForTheirRequest : Type 0
SnapshotsWaitForTheirRequest =
    (config : Config) (servers clients : ℕ) (w : WorldState) → IsReached config servers clients w → IsTrue w.master.up → AllByRecursion (HasItsRequest w.sent) w.master.snapshots
