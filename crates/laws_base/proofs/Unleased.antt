-- Each handle of which a Grant was sent was used, so that none is a new copy's.
use Rattle.std.proofs.Common.{◌≡◌, ℕ, ◌≤◌, true, List, Option, Some, None, refl, arith}
use Rattle.std.specs.FinMap as table
use Rattle.gfs_types.specs.declared.ids.Version.{Version}
use Rattle.gfs_types.specs.declared.ids.Moment.{Moment}
use Rattle.gfs_types.specs.declared.ids.OrderNo.{OrderNo}
use Rattle.messages.specs.declared.message.Message.{Message}
use Rattle.primary_order.specs.SerialOrder.{SerialOrder}
use Rattle.protocol.specs.Tables.{element_at}
use Rattle.protocol.specs.Sending.{version_of}
use Rattle.protocol.specs.Seen.{Taken, no_step}
use Rattle.protocol.specs.declared.seen.Seen.TheVariants.{CopyStarted}
use Rattle.protocol.specs.Server.{ServerState}
use Rattle.protocol.specs.Master.{MasterState}
use Rattle.protocol.specs.MasterStep.{master_goes, master_bounded, master_step}
use Rattle.laws_base.proofs.LeaseOrders.{SaysGrant, says_grant}
use Rattle.laws_base.proofs.Steps.{on_cond, none_some}
use Rattle.laws_base.proofs.MembersRecorded.{all_at}
use Rattle.laws_base.proofs.SentReached.{sent_reached}
use Rattle.laws_base.proofs.RevokesNumbered.{Agrees, IsOfRevokes, revokes_kept}
use Rattle.laws_base.proofs.ScenesReached.{scene_reached}
use Rattle.laws_base.proofs.LeasesTold.{IsToldServer, AreTold, told_kept}
use Rattle.laws_base.specs.NewCopies.{HasNoLease, NewCopiesHaveNoLease}
use Rattle.laws_base.proofs.NewCopies.{IsCopyFrom, step_copies}

pub new_copies_have_no_lease : NewCopiesHaveNoLease
new_copies_have_no_lease config servers clients w r moment i choice place handle copy shown =
    on_cond (λ (t : Taken MasterState). element_at t.seen place ≡ Some (CopyStarted handle copy) → HasNoLease w copy) w.master.up (master_bounded w.master i (master_goes w.master moment i choice.refused) choice) (no_step w.master)
    (λ up _. record { ungranted = λ at m there order version end_moment members is. ungranted up at m there order version end_moment members (says_grant is); unheld = λ index s at. unheld up index s at (table.get s.leases copy.0) refl }) (λ _ g. none_some (CopyStarted handle copy) g) shown
  where
    new : (w.master).logged.next_handle ≤ copy.0
    new = all_at (IsCopyFrom (w.master).logged.next_handle) (master_step w.master moment i choice).seen place (CopyStarted handle copy) (step_copies w.master moment i choice) shown

    ungranted : (w.master).up ≡ true → (at : ℕ) (m : Message) → element_at w.sent at ≡ Some m → (order : OrderNo) (version : Version) (end_moment : Moment) (members : List ℕ) → SaysGrant order copy version end_moment members m.body → ⊥
    ungranted up at m there order version end_moment members is =
        let agrees : Agrees w.sent (w.master).logged = (sent_reached IsOfRevokes revokes_kept config servers clients w r).revokes.up up in
        let used = (agrees.used m (at, there)).0 order copy version end_moment members is in
        omega (arith, new, used)

    unheld : (w.master).up ≡ true → (index : ℕ) (s : ServerState) → element_at w.servers index ≡ Some s → (o : Option SerialOrder) → table.get s.leases copy.0 ≡ o → o ≡ None
    unheld up index s at None held = refl
    unheld up index s at (Some p) held =
        let told : IsToldServer w.sent index s = scene_reached AreTold told_kept config servers clients w r index s at in
        let lease = told.told copy.0 p held in
        absurd (ungranted up lease.place lease.grant lease.at lease.order (version_of p.held.version) lease.end_moment p.held.members lease.is)
