-- Laws of every lawful list of events on Grants and on what is numbered under their versions, that public functions of this crate state.
use Rattle.std.specs.Prelude.{◌≡◌, ℕ, suc, ◌≤◌, List, Some}
use Rattle.gfs_types.specs.declared.config.Config.{Config}
use Rattle.gfs_types.specs.declared.ids.DataId.{DataId}
use Rattle.gfs_types.specs.declared.ids.Handle.{Handle}
use Rattle.gfs_types.specs.declared.ids.Version.{Version}
use Rattle.gfs_types.specs.declared.ids.Moment.{Moment}
use Rattle.gfs_types.specs.declared.ids.OrderNo.{OrderNo}
use Rattle.messages.specs.declared.event.Event.{Event}
use Rattle.messages.specs.declared.event.NodeInput.{NodeInput}
use Rattle.messages.specs.declared.message.Message.{Message}
use Rattle.protocol.specs.Tables.{element_at}
use Rattle.protocol.specs.Sending.{the_server, handle_of, version_of}
use Rattle.protocol.specs.Choice.{Choice}
use Rattle.protocol.specs.Observer.{Placed, order_of}
use Rattle.protocol.specs.Server.{ServerState}
use Rattle.protocol.specs.World.{WorldState, new_world, after_events, IsReached}
use Rattle.laws_base.specs.Laws.{IsGrantBody, grants_of}
use Rattle.laws_base.specs.Deadlines.{Numbers}
use Rattle.laws_base.specs.ChunkOrders.{WasCopied, IsSource}
use Rattle.laws_versions.specs.AnsweredOrders.{IsRefusedBy}

-- A Grant of this version was sent, and each one went to this server, which refuses it.
pub record IsGrantUsed (w : WorldState) (index handle version : ℕ) : Type 0 where
  pub granted : 1 ≤ grants_of handle version w.sent
  pub refused : (place : ℕ) (m : Message) → element_at w.sent place ≡ Some m
      → (order : OrderNo) (end_moment : Moment) (members : List ℕ) → IsGrantBody order (handle_of handle) (version_of version) end_moment members m.body
      → (m.receiver ≡ the_server (suc index)) × ((s : ServerState) → element_at w.servers index ≡ Some s → IsRefusedBy s order)

-- Where a step of a server numbers a mutation under a version, the Grant of that version is used up, in all that follows (section 3.1).
abbrev pub NumberedVersionsHaveUsedGrants : Type 0
NumberedVersionsHaveUsedGrants =
    (config : Config) (servers clients : ℕ) (w : WorldState) → IsReached config servers clients w
    → (index moment : ℕ) (s : ServerState) (i : NodeInput) (choice : Choice) (handle : Handle) (version : Version) (id : DataId) → Numbers w index moment s i choice handle version id
    → (steps : List (Event × Choice)) → IsGrantUsed (after_events w steps) index handle.0 version.0

-- The Grant of each entry's version is used up, of this chunk or of one of which it is a copy (section 3.1).
abbrev pub EntriesAreOfUsedGrants : Type 0
EntriesAreOfUsedGrants =
    (config : Config) (servers clients : ℕ) (steps : List (Event × Choice)) (handle place : ℕ) (p : Placed)
    → element_at (order_of (after_events (new_world config servers clients) steps).observer handle) place ≡ Some p
    → (from : ℕ) × IsSource (WasCopied (new_world config servers clients) steps) from handle × (index : ℕ) × IsGrantUsed (after_events (new_world config servers clients) steps) index from p.entry.round
