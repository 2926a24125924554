-- Which events are a client's, and what they keep, where clocks and disks are kept (sections 2.3 and 2.7).
use Rattle.std.specs.Prelude.{◌≡◌, ◌⊎◌, ℕ, suc, ◌≤◌, List, Some, None, IsTrue, IsFalse}
use Rattle.gfs_types.specs.declared.config.Config.{Config}
use Rattle.gfs_types.specs.declared.call.Call.{Call}
use Rattle.gfs_types.specs.declared.ids.ClientId.{ClientId}
use Rattle.gfs_types.specs.declared.ids.Moment.{Moment}
use Rattle.gfs_types.specs.declared.ids.Node.{Node}
use Rattle.gfs_types.specs.declared.ids.Node.TheVariants as node
use Rattle.messages.specs.declared.event.Event.{Event}
use Rattle.messages.specs.declared.event.Event.TheVariants as event
use Rattle.messages.specs.declared.event.NodeInput.{NodeInput}
use Rattle.messages.specs.declared.message.Message.{Message}
use Rattle.relaxed_file.specs.Run.{LeadsTo, IsRunTo}
use Rattle.client_state.specs.declared.call.CurrentCall.{CurrentCall}
use Rattle.client_state.specs.declared.call.Stage.TheVariants.{AskedNames}
use Rattle.protocol.specs.Choice.{Choice}
use Rattle.protocol.specs.Tables.{element_at}
use Rattle.protocol.specs.Client.{ClientState}
use Rattle.protocol.specs.Observer.{observed_moment}
use Rattle.protocol.specs.Master.{PendingSnapshot}
use Rattle.protocol.specs.World.{WorldState, numbered_from_1, happens, IsReached, is_kept}
use Rattle.laws_base.specs.FileCalls.{IsOfFile}
use Rattle.laws_machine.specs.ChunksAlike.{ChunkSides}
use Rattle.laws_machine.specs.ServerSteps.{AreForOpenCalls}
use Rattle.laws_machine.specs.ChunksBeside.{AreChunksBeside, IsMastersEvent}
use Rattle.laws_machine.specs.FileClients.{IsSaid}
use Rattle.laws_machine.specs.FileClientsStay.{IsFirmInput}
use Rattle.laws_machine.specs.Tries.{AddsNumberedTries}
use Rattle.laws_machine.specs.WholeWorlds.{AreFileClients, IsBeside, IsWholeWorld, IsServersEvent}
use Rattle.laws_machine.specs.WholeClients.{GivesClient}

abbrev pub IsClient : Node → Type 0
IsClient (node.Client c) = Unit {0}
IsClient other = ⊥

-- a call of a client, or a message, a tick or a restart of one
abbrev pub IsClientsEvent : WorldState → Event → Type 0
IsClientsEvent w (event.Call client c now) = Unit {0}
IsClientsEvent w (event.Deliver number now) = (m : Message) × (numbered_from_1 w.sent number ≡ Some m) × IsClient m.receiver
IsClientsEvent w (event.Tick n now) = IsClient n
IsClientsEvent w (event.Restart n now) = IsClient n
IsClientsEvent w other = ⊥

-- Each event is a server's, a client's or the master's.
abbrev pub EventsAreOfOneKind : Type 0
EventsAreOfOneKind = (w : WorldState) (e : Event) → IsServersEvent w e ⊎ (IsClientsEvent w e ⊎ IsMastersEvent w e)

-- Beside the world the mutations that a server may number are for open calls.
abbrev pub AreOpenCallsKnown : Config → WorldState → Type 0
AreOpenCallsKnown config w = (ss : List PendingSnapshot) (k : ChunkSides) → IsBeside config w ss k → AreForOpenCalls w k

-- Where a client takes a refusal because its range is too long, it is too long at the machine that is beside the world, once that has placed what was numbered.
abbrev pub AreTooLong : Config → WorldState → WorldState → Event → Type 0
AreTooLong config w then_ e =
    (index moment : ℕ) (s : ClientState) (i : NodeInput) → element_at w.clients index ≡ Some s → IsTrue s.up → GivesClient w e index moment i → (IsFirmInput i → ⊥)
    → (ss : List PendingSnapshot) (k j : ChunkSides) → IsBeside config w ss k → LeadsTo k.machine j.machine → AreChunksBeside config then_ j
    → IsRunTo config (observed_moment w.config.skew_ms w.observer moment).trace j.machine → AreFileClients w.clients j.machine → AddsNumberedTries w then_ k j.machine → IsSaid j.machine (suc index) s i

-- A step of a client for its open call on a file keeps the whole machine beside the world.
abbrev pub ClientFileStepsKeepWorldsWhole : Type 0
ClientFileStepsKeepWorldsWhole =
    (config : Config) (servers clients : ℕ) (w : WorldState) → IsReached config servers clients w → IsTrue (is_kept w)
    → (e : Event) (choice : Choice) → IsTrue (happens w e choice).world.observer.are_clocks_kept
    → (index moment : ℕ) (s : ClientState) (i : NodeInput) → element_at w.clients index ≡ Some s → GivesClient w e index moment i → (x : CurrentCall) → s.current ≡ Some x → IsOfFile x.stage
    → AreOpenCallsKnown config w → AreTooLong config w (happens w e choice).world e
    → IsWholeWorld config w → IsWholeWorld config (happens w e choice).world

-- So does a message or a tick that a client gets that has no call, or that is down.
abbrev pub IdleStepsKeepWorldsWhole : Type 0
IdleStepsKeepWorldsWhole =
    (config : Config) (servers clients : ℕ) (w : WorldState) → IsReached config servers clients w → IsTrue (is_kept w)
    → (e : Event) (choice : Choice) → IsTrue (happens w e choice).world.observer.are_clocks_kept
    → (index moment : ℕ) (s : ClientState) (i : NodeInput) → element_at w.clients index ≡ Some s → GivesClient w e index moment i → (s.current ≡ None) ⊎ IsFalse s.up
    → AreOpenCallsKnown config w → IsWholeWorld config w → IsWholeWorld config (happens w e choice).world

-- So does one that a client gets that waits for the answer to its name call: it waits on, is answered or gives up, or stops.
abbrev pub NameStepsKeepWorldsWhole : Type 0
NameStepsKeepWorldsWhole =
    (config : Config) (servers clients : ℕ) (w : WorldState) → IsReached config servers clients w → IsTrue (is_kept w)
    → (e : Event) (choice : Choice) → IsTrue (happens w e choice).world.observer.are_clocks_kept
    → (index moment : ℕ) (s : ClientState) (i : NodeInput) → element_at w.clients index ≡ Some s → GivesClient w e index moment i → (x : CurrentCall) → s.current ≡ Some x → x.stage ≡ AskedNames
    → AreOpenCallsKnown config w → IsWholeWorld config w → IsWholeWorld config (happens w e choice).world

-- So does a call as it is made, of names or on a file: it is begun, refused or answered at once, or the client stops.
abbrev pub CallsKeepWorldsWhole : Type 0
CallsKeepWorldsWhole =
    (config : Config) → 1 ≤ config.chunk → (servers clients : ℕ) (w : WorldState) → IsReached config servers clients w → IsTrue (is_kept w)
    → (client : ClientId) (c : Call) (now : Moment) (choice : Choice) → IsTrue (happens w (event.Call client c now) choice).world.observer.are_clocks_kept
    → AreOpenCallsKnown config w → IsWholeWorld config w → IsWholeWorld config (happens w (event.Call client c now) choice).world

-- An event of a client keeps the whole machine beside the world.
abbrev pub ClientsEventsKeepWorldsWhole : Type 0
ClientsEventsKeepWorldsWhole =
    (config : Config) → 1 ≤ config.chunk → (servers clients : ℕ) (w : WorldState) → IsReached config servers clients w → IsTrue (is_kept w)
    → (e : Event) (choice : Choice) → IsTrue (happens w e choice).world.observer.are_clocks_kept → IsClientsEvent w e
    → AreOpenCallsKnown config w → AreTooLong config w (happens w e choice).world e
    → IsWholeWorld config w → IsWholeWorld config (happens w e choice).world
