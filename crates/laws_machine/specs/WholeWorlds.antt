-- The whole machine beside a world: its run shows what was seen, and names, chunks, rounds and the clients' calls are those of the cell; from each world to the next (sections 2.4, 2.7, 3.1 and 4.1).
use Rattle.std.specs.Prelude.{◌≡◌, ◌⊎◌, ℕ, suc, ◌<◌, Bool, true, false, List, [], ◌++◌, Some, IsTrue, IsFalse}
use Rattle.std.specs.List.{list_all}
use Rattle.gfs_types.specs.declared.config.Config.{Config}
use Rattle.gfs_types.specs.declared.ids.Node.{Node}
use Rattle.gfs_types.specs.declared.ids.Node.TheVariants as node
use Rattle.messages.specs.declared.event.Event.{Event}
use Rattle.messages.specs.declared.event.Event.TheVariants as event
use Rattle.messages.specs.declared.event.NodeInput.TheVariants as input
use Rattle.messages.specs.declared.message.Message.{Message}
use Rattle.relaxed_file.specs.Machine.{Machine}
use Rattle.relaxed_file.specs.Run.{Action, Look, Measure, IsLawful, after_all, LeadsTo, IsRunTo}
use Rattle.machine_names.specs.NameProjections.{AreNamesOf}
use Rattle.protocol.specs.Choice.{Choice}
use Rattle.protocol.specs.Tables.{element_at}
use Rattle.protocol.specs.Sending.{the_client}
use Rattle.protocol.specs.Logged.{Logged}
use Rattle.protocol.specs.Master.{PendingSnapshot}
use Rattle.protocol.specs.Client.{ClientState}
use Rattle.protocol.specs.World.{WorldState, new_world, numbered_from_1, happens, IsReached, is_kept}
use Rattle.laws_names.specs.Alike.{Requests}
use Rattle.laws_names.specs.Beside.{WasSent, IsNamesBeside, AreClientsBeside}
use Rattle.protocol_invariant.specs.Actions.{Spot}
use Rattle.laws_machine.specs.ChunksAlike.{ChunkSides}
use Rattle.laws_machine.specs.Rounds.{log_as}
use Rattle.laws_machine.specs.ServerSteps.{AreForOpenCalls}
use Rattle.laws_machine.specs.ChunksBeside.{AreChunksBeside}
use Rattle.laws_machine.specs.FileClients.{IsFileClient, IsSaid}
use Rattle.laws_machine.specs.FileClientsStay.{IsFirm}
use Rattle.laws_machine.specs.SentRequests.{AreRequestsNumbered}
use Rattle.laws_machine.specs.Tries.{HasNoMoreTries, AddsNumberedTries}
use Rattle.laws_machine.specs.ToldShapes.{AreShapesTold}
use Rattle.laws_machine.specs.RoundSizes.{AreRoundsSized}

-- of each client that is up, what it was sent, but for a refusal as too long, is so, where it waits for it
abbrev pub AreWordsSo : List Message → List ClientState → Machine → Type 0
AreWordsSo sent clients m =
    (index : ℕ) (s : ClientState) → element_at clients index ≡ Some s → IsTrue s.up
    → (x : Message) → WasSent sent x → x.receiver ≡ the_client (suc index) → IsFirm x.body → IsSaid m (suc index) s (input.Deliver x)

-- each client that is up has at the machine what it has of files
abbrev pub AreFileClients : List ClientState → Machine → Type 0
AreFileClients clients m = (index : ℕ) (s : ClientState) → element_at clients index ≡ Some s → IsTrue s.up → IsFileClient m (suc index) s

-- A whole machine, and one by names alone, beside a world and a log of its master, where these snapshots wait.
pub record IsBeside (config : Config) (w : WorldState) (ss : List PendingSnapshot) (k : ChunkSides) : Type 0 where
  pub names : Machine
  pub requests : Requests
  pub named : IsNamesBeside config w.observer.trace w.observer.greatest w.sent k.log ss names requests
  pub asking : AreClientsBeside config w.observer.trace w.observer.greatest w.clients names requests
  pub run : IsRunTo config w.observer.trace k.machine
  pub same : AreNamesOf k.machine names
  pub below : (handle : ℕ) (s : Spot) → k.gone handle ≡ Some s → handle < k.log.next_handle
  pub chunks : AreChunksBeside config w k
  pub files : AreFileClients w.clients k.machine
  pub said : AreWordsSo w.sent w.clients k.machine
  pub requests_are : AreRequestsNumbered config w k.machine
  pub shapes : AreShapesTold w.sent k.machine
  pub sized : AreRoundsSized w k

abbrev pub HasMachine : Config → WorldState → Logged → List PendingSnapshot → Type 0
HasMachine config w l ss = (k : ChunkSides) × (k.log ≡ l) × IsBeside config w ss k

-- Beside each log of the master there is one: while it is up, beside what it keeps; while it is down, beside what its log says, however it is decided what was under way.
pub record IsWholeWorld (config : Config) (w : WorldState) : Type 0 where
  pub state : IsTrue w.master.up → HasMachine config w w.master.logged w.master.snapshots
  pub log : IsFalse w.master.up → (decided : List Bool) → HasMachine config w (log_as w.master decided) []

-- A new machine is beside a new world.
abbrev pub NewWorldsAreWhole : Type 0
NewWorldsAreWhole = (config : Config) (servers clients : ℕ) → IsWholeWorld config (new_world config servers clients)

abbrev pub IsServer : Node → Type 0
IsServer (node.Server s) = Unit {0}
IsServer other = ⊥

-- A message, a tick or a restart of a server, a byte that rots, or a fuse. A client that starts again does nothing.
abbrev pub IsServersEvent : WorldState → Event → Type 0
IsServersEvent w (event.Call client c now) = ⊥
IsServersEvent w (event.Deliver number now) = (m : Message) → numbered_from_1 w.sent number ≡ Some m → IsServer m.receiver
IsServersEvent w (event.Tick n now) = IsServer n
IsServersEvent w (event.Restart n now) = n ≡ node.Master → ⊥
IsServersEvent w other = Unit {0}

-- a chunk is read or measured for a client
abbrev pub is_of_looks : Action → Bool
is_of_looks (Look client file index noted last chosen) = true
is_of_looks (Measure client file index told noted last chosen) = true
is_of_looks other = false

-- The machine may take looks for clients, after which all is so that is said anew.
pub record AreAnswersSo (w then_ : WorldState) (m : Machine) : Type 0 where
  pub looks : List Action
  pub of_looks : IsTrue (list_all is_of_looks looks)
  pub lawful : IsLawful m looks
  pub said : (more : List Message) → then_.sent ≡ w.sent ++ more → AreWordsSo more w.clients (after_all m looks)

-- From one world to the next requests stay of calls and tries numbered, however the machine goes on, where it places only what is numbered.
abbrev pub RequestsStayNumbered : Config → WorldState → WorldState → Type 0
RequestsStayNumbered config w then_ =
    (ss : List PendingSnapshot) (k : ChunkSides) (n : Machine) → IsBeside config w ss k → LeadsTo k.machine n → IsRunTo config then_.observer.trace n → AreFileClients then_.clients n
    → HasNoMoreTries k.machine n ⊎ AddsNumberedTries w then_ k n → AreRequestsNumbered config then_ n

-- What an event of a server asks: what it may number is for an open call, and what it answers may be looked at, once the machine has placed what was numbered.
pub record AreServersTrue (config : Config) (w then_ : WorldState) : Type 0 where
  pub numbers : (ss : List PendingSnapshot) (k : ChunkSides) → IsBeside config w ss k → AreForOpenCalls w k
  pub requests : RequestsStayNumbered config w then_
  pub answers : (ss : List PendingSnapshot) (k j : ChunkSides) → IsBeside config w ss k → LeadsTo k.machine j.machine → IsRunTo config w.observer.trace j.machine → AreChunksBeside config then_ j
      → AreFileClients w.clients j.machine → AreWordsSo w.sent w.clients j.machine → AreAnswersSo w then_ j.machine

-- Where clocks and disks are kept, an event of a server keeps all so.
abbrev pub ServersEventsKeepWorldsWhole : Type 0
ServersEventsKeepWorldsWhole =
    (config : Config) (servers clients : ℕ) (w : WorldState) → IsReached config servers clients w → IsTrue (is_kept w)
    → (e : Event) (choice : Choice) → IsTrue (happens w e choice).world.observer.are_clocks_kept → IsServersEvent w e → AreServersTrue config w (happens w e choice).world
    → IsWholeWorld config w → IsWholeWorld config (happens w e choice).world
