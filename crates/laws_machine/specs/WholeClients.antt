-- The whole machine stays beside the world as a client takes a step for its call on a file, or stops in it (sections 2.4, 2.7.1 and 3.1).
use Rattle.std.specs.Prelude.{◌≡◌, ℕ, suc, List, ◌++◌, Some, IsTrue}
use Rattle.gfs_types.specs.declared.config.Config.{Config}
use Rattle.messages.specs.declared.event.Event.{Event}
use Rattle.messages.specs.declared.event.Event.TheVariants as event
use Rattle.messages.specs.declared.event.NodeInput.{NodeInput}
use Rattle.messages.specs.declared.event.NodeInput.TheVariants as input
use Rattle.messages.specs.declared.message.Message.{Message}
use Rattle.relaxed_file.specs.Machine.{Machine}
use Rattle.relaxed_file.specs.Run.{after_all, LeadsTo, IsRunTo}
use Rattle.client_state.specs.declared.call.CurrentCall.{CurrentCall}
use Rattle.protocol.specs.Choice.{Choice}
use Rattle.protocol.specs.Tables.{element_at}
use Rattle.protocol.specs.Sending.{the_client}
use Rattle.protocol.specs.Observer.{observed_moment}
use Rattle.protocol.specs.Master.{PendingSnapshot}
use Rattle.protocol.specs.Client.{ClientState}
use Rattle.protocol.specs.ClientStep.{client_goes}
use Rattle.protocol.specs.World.{WorldState, numbered_from_1, happens, IsReached, is_kept}
use Rattle.laws_base.specs.FileCalls.{IsOfFile}
use Rattle.laws_names.specs.Beside.{WasSent}
use Rattle.laws_machine.specs.ChunksAlike.{ChunkSides}
use Rattle.laws_machine.specs.ServerSteps.{AreForOpenCalls}
use Rattle.laws_machine.specs.ChunksBeside.{AreChunksBeside}
use Rattle.laws_machine.specs.FileClients.{IsSaid, IsFollowed}
use Rattle.laws_machine.specs.FileClientsStay.{IsFirm, IsFirmInput}
use Rattle.laws_machine.specs.Tries.{AddsNumberedTries}
use Rattle.laws_machine.specs.WholeWorlds.{AreWordsSo, AreFileClients, IsBeside, RequestsStayNumbered, IsWholeWorld}

-- the event gives the client this input at this moment
abbrev pub GivesClient : WorldState → Event → (index moment : ℕ) → NodeInput → Type 0
GivesClient w (event.Deliver number now) index moment i = (m : Message) × (numbered_from_1 w.sent number ≡ Some m) × (m.receiver ≡ the_client (suc index)) × (i ≡ input.Deliver m) × (now.0 ≡ moment)
GivesClient w (event.Tick n now) index moment i = (n ≡ the_client (suc index)) × (i ≡ input.Tick) × (now.0 ≡ moment)
GivesClient w e index moment i = ⊥

-- what the client in this state was sent, but for a refusal as too long, is so, where it waits for it
abbrev pub AreOwnWordsSo : List Message → Machine → ℕ → ClientState → Type 0
AreOwnWordsSo sent m index s = (x : Message) → WasSent sent x → x.receiver ≡ the_client (suc index) → IsFirm x.body → IsSaid m (suc index) s (input.Deliver x)

-- What a client's step asks: what it hears of a range that is too long is so; the machine follows the step so that what was sent is so for where the client's call is then; and what it sends is no false word to a client.
pub record AreClientsTrue (config : Config) (w then_ : WorldState) (index moment : ℕ) (s : ClientState) (i : NodeInput) : Type 0 where
  pub numbers : (ss : List PendingSnapshot) (k : ChunkSides) → IsBeside config w ss k → AreForOpenCalls w k
  pub requests : RequestsStayNumbered config w then_
  pub heard : IsTrue s.up → (ss : List PendingSnapshot) (k j : ChunkSides) → IsBeside config w ss k → LeadsTo k.machine j.machine → AreChunksBeside config then_ j
      → IsRunTo config (observed_moment w.config.skew_ms w.observer moment).trace j.machine → AreFileClients w.clients j.machine → AddsNumberedTries w then_ k j.machine → (IsFirmInput i → ⊥)
      → IsSaid j.machine (suc index) s i
  pub waits : IsTrue s.up → (ss : List PendingSnapshot) (k : ChunkSides) (m : Machine) → IsBeside config w ss k → LeadsTo k.machine m → AreFileClients w.clients m → AreWordsSo w.sent w.clients m
      → IsFollowed m (suc index) (client_goes s moment i) → (f : IsFollowed m (suc index) (client_goes s moment i)) × AreOwnWordsSo w.sent (after_all m f.actions) index (client_goes s moment i).client
  pub says : (more : List Message) → then_.sent ≡ w.sent ++ more → (m : Machine) → AreWordsSo more then_.clients m

-- Where clocks and disks are kept, a step of a client for its open call on a file keeps all so: where it goes on, is answered, or stops.
abbrev pub FileStepsKeepWorldsWhole : Type 0
FileStepsKeepWorldsWhole =
    (config : Config) (servers clients : ℕ) (w : WorldState) → IsReached config servers clients w → IsTrue (is_kept w)
    → (e : Event) (choice : Choice) → IsTrue (happens w e choice).world.observer.are_clocks_kept
    → (index moment : ℕ) (s : ClientState) (i : NodeInput) → element_at w.clients index ≡ Some s → GivesClient w e index moment i → (x : CurrentCall) → s.current ≡ Some x → IsOfFile x.stage
    → AreClientsTrue config w (happens w e choice).world index moment s i → IsWholeWorld config w → IsWholeWorld config (happens w e choice).world
