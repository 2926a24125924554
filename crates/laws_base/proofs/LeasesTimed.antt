-- A step of the master keeps what it told of leases' ends.
use Rattle.std.proofs.Common.{ℕ, suc, ◌+◌, ◌≤◌, ◌<◌, List, refl}
use Rattle.std.specs.Prelude.{IsTrue}
use Rattle.messages.specs.declared.message.Message.{Message}
use Rattle.protocol.specs.Logged.{LogDisk}
use Rattle.protocol.specs.Master.{MasterState}
use Rattle.laws_base.proofs.MasterMoves.{Nothing, Keeps}
use Rattle.laws_base.proofs.OrderNumbers.{state_of, AllFound}
use Rattle.laws_base.proofs.NamesReached.{naming_keeps}
use Rattle.laws_base.proofs.RowsLogged.{IsFoundRows, IsRowedLog}
use Rattle.laws_base.proofs.RowsKept.{rows_kept}
use Rattle.laws_base.proofs.RevokesNumbered.{IsRowing}
use Rattle.laws_base.proofs.LeaseEnds.{IsEndTold, IsVersionGranted, WasSaidOver, IsPast, HasEnd, HasVersion, AreEnds, plain_tells, quiet_tells, IsTelling, appended, checkpointed, less_told, revoked_told, sends, extended_told, granted_told_step}

pub telling_keeps : (before : List Message) (greatest lease : ℕ) (start : LogDisk) → Keeps (Unit {0}) Nothing (WasSaidOver before) (λ c. IsRowing start c × IsTelling before greatest lease start c)
telling_keeps before greatest lease start =
    let base : Keeps (Unit {0}) Nothing (WasSaidOver before) (IsRowing start) = naming_keeps IsFoundRows IsRowedLog rows_kept start (WasSaidOver before) in
    record {
      sound = λ asks c h. base.sound asks c h.0;
      tells = λ c receiver b quiet h. (base.tells c receiver b quiet h.0, sends before greatest lease start c _ c.order_count (quiet_tells b quiet) h.1);
      orders = λ c server b is plain h. (base.orders c server b is plain h.0, sends before greatest lease start c _ (suc c.order_count) (plain_tells (b _) _ (is _) (plain _)) h.1);
      revokes = λ c handle row is h. (base.revokes c handle row is h.0, sends before greatest lease start c _ (suc c.order_count) (λ q v u. refl) h.1);
      grants = λ c handle version until primary members told due names from idle h. (
        base.grants c handle version until primary members told due names from idle h.0,
        granted_told_step before greatest lease start c handle version until primary members due from (idle tt) h.0 h.1,
      );
      appends = λ c r due plain names h. (base.appends c r due plain names h.0, appended before greatest lease start c r due plain h.0 h.1);
      checkpoint = λ c tree h. (base.checkpoint c tree h.0, checkpointed before greatest lease start c (tree tt) h.0 h.1);
      less = λ c handles copied h. (base.less c handles copied h.0, less_told before greatest lease start c handles h.1);
      ends = λ c handle row is word h. (base.ends c handle row is word h.0, revoked_told before greatest lease start c handle row is word h.1);
      extends = λ c handle until row is left later from h. (base.extends c handle until row is left later from h.0, extended_told before greatest lease start c handle until row is left later from h.0 h.1);
    }

-- of what was sent until this moment, and the master between its steps
pub record AreTimely (sent : List Message) (greatest lease : ℕ) (m : MasterState) : Type 0 where
  pub bound : (handle version until : ℕ) → IsEndTold sent handle version until → (until ≤ greatest + lease) × (1 ≤ version)
  pub newer : (handle version until later : ℕ) → IsEndTold sent handle version until → IsVersionGranted sent handle later → version < later → IsPast greatest sent handle version until
  pub found : AllFound (λ d. AreEnds (HasVersion greatest sent) sent (state_of d)) m.disk m.under_way
  pub up : IsTrue m.up → AreEnds (HasEnd greatest sent) sent m.logged
