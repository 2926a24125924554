-- The law of every lawful list of events on copies that begin, that a public function of this crate states.
use Rattle.std.specs.Prelude.{◌≡◌, ℕ, List, Some, None}
use Rattle.std.specs.FinMap as table
use Rattle.gfs_types.specs.declared.config.Config.{Config}
use Rattle.gfs_types.specs.declared.ids.Handle.{Handle}
use Rattle.gfs_types.specs.declared.ids.Version.{Version}
use Rattle.gfs_types.specs.declared.ids.Moment.{Moment}
use Rattle.gfs_types.specs.declared.ids.OrderNo.{OrderNo}
use Rattle.messages.specs.declared.message.Message.{Message}
use Rattle.messages.specs.declared.event.NodeInput.{NodeInput}
use Rattle.protocol.specs.Tables.{element_at}
use Rattle.protocol.specs.Choice.{Choice}
use Rattle.protocol.specs.declared.seen.Seen.TheVariants.{CopyStarted}
use Rattle.protocol.specs.Server.{ServerState}
use Rattle.protocol.specs.MasterStep.{master_step}
use Rattle.protocol.specs.World.{WorldState, IsReached}
use Rattle.laws_base.specs.Laws.{IsGrantBody}

-- no lease of this chunk was granted, and no server holds one
pub record HasNoLease (w : WorldState) (handle : Handle) : Type 0 where
  pub ungranted : (place : ℕ) (m : Message) → element_at w.sent place ≡ Some m → (order : OrderNo) (version : Version) (end_moment : Moment) (members : List ℕ) → IsGrantBody order handle version end_moment members m.body → ⊥
  pub unheld : (index : ℕ) (s : ServerState) → element_at w.servers index ≡ Some s → table.get s.leases handle.0 ≡ None

-- The handle of a copy that the master begins had no lease before (section 3.4).
abbrev pub NewCopiesHaveNoLease : Type 0
NewCopiesHaveNoLease =
    (config : Config) (servers clients : ℕ) (w : WorldState) → IsReached config servers clients w
    → (moment : ℕ) (i : NodeInput) (choice : Choice) (place : ℕ) (handle copy : Handle) → element_at (master_step w.master moment i choice).seen place ≡ Some (CopyStarted handle copy) → HasNoLease w copy
