-- The laws of every lawful list of events on the calls for which mutations are placed, that public functions of this crate state.
use Rattle.std.specs.Prelude.{◌≡◌, ℕ, suc, List, Option, Some, IsTrue}
use Rattle.gfs_types.specs.declared.config.Config.{Config}
use Rattle.gfs_types.specs.declared.ids.DataId.{DataId}
use Rattle.gfs_types.specs.declared.ids.Handle.{Handle}
use Rattle.gfs_types.specs.declared.ids.Version.{Version}
use Rattle.messages.specs.declared.event.Event.{Event}
use Rattle.messages.specs.declared.event.NodeInput.{NodeInput}
use Rattle.protocol.specs.Tables.{element_at}
use Rattle.protocol.specs.Choice.{Choice}
use Rattle.protocol.specs.Observer.{Placed, order_of, observed_moment}
use Rattle.protocol.specs.Server.{ServerState}
use Rattle.protocol.specs.World.{new_world, after_events}
use Rattle.laws_base.specs.Deadlines.{Numbers}
use Rattle.laws_base.specs.FewAttempts.{WasAsked}
use Rattle.laws_machine.specs.OpenAttempts.{IsOfOpenCall}

-- Where clocks are kept, a mutation is numbered only for the open call of its client (sections 3.1 and 3.3).
abbrev pub EntriesAreOfOpenCalls : Type 0
EntriesAreOfOpenCalls =
    (config : Config) (servers clients : ℕ) (steps : List (Event × Choice)) (server moment : ℕ) (s : ServerState) (i : NodeInput) (choice : Choice) (handle : Handle) (version : Version) (id : DataId)
    → Numbers (after_events (new_world config servers clients) steps) server moment s i choice handle version id
    → IsTrue (observed_moment config.skew_ms (after_events (new_world config servers clients) steps).observer moment).are_clocks_kept
    → (index : ℕ) → id.client.0 ≡ suc index
    → IsOfOpenCall (new_world config servers clients) steps index id.seq

-- Where clocks are kept, each entry of a chunk's order was asked for in the call whose entry it is, for a part of it.
abbrev pub EntriesWereAskedForInTheirCall : Type 0
EntriesWereAskedForInTheirCall =
    (config : Config) (servers clients : ℕ) (steps : List (Event × Choice)) → IsTrue (after_events (new_world config servers clients) steps).observer.are_clocks_kept
    → (handle place : ℕ) (p : Placed) → element_at (order_of (after_events (new_world config servers clients) steps).observer handle) place ≡ Some p → (index : ℕ) → p.entry.call.client ≡ suc index
    → (part : Option ℕ) × WasAsked index (new_world config servers clients) steps p.entry.call.number part p.seq
