-- No lease is granted of a chunk's version 0.
use Rattle.std.proofs.Common.{◌≡◌, ℕ, ◌≤◌, ◌<◌, true, false, List, [], ◌∷◌, ◌++◌, refl, subst, inl, inr, arith}
use Rattle.gfs_types.specs.declared.config.Config.{Config}
use Rattle.gfs_types.specs.declared.ids.Handle.{Handle}
use Rattle.gfs_types.specs.declared.ids.Version.{Version}
use Rattle.gfs_types.specs.declared.ids.Moment.{Moment}
use Rattle.gfs_types.specs.declared.ids.OrderNo.{OrderNo}
use Rattle.messages.specs.declared.event.NodeInput.{NodeInput}
use Rattle.messages.specs.declared.message.Body.{Body}
use Rattle.messages.specs.declared.message.Message.{Message}
use Rattle.protocol.specs.Choice.{Choice, Ending, Goes, Lost, Stops}
use Rattle.protocol.specs.Seen.{Taken, no_step}
use Rattle.protocol.specs.Logged.{LogDisk}
use Rattle.protocol.specs.Master.{MasterState, MasterDoing}
use Rattle.protocol.specs.MasterStep.{master_goes, master_ends, master_bounded, master_step, may_end, master_restart}
use Rattle.protocol.specs.ServerStep.{server_step, server_restart}
use Rattle.protocol.specs.World.{WorldState, IsReached, stamped}
use Rattle.laws_base.proofs.LeaseOrders.{grant_parts, OfGrant, of_grant, of_nothing, untold_nothing}
use Rattle.laws_base.specs.Laws.{is_grant, grants_of}
use Rattle.laws_base.proofs.Steps.{on_cond}
use Rattle.laws_base.proofs.Entries.{AllOf, all_joined}
use Rattle.laws_base.proofs.Words.{is_of_lease, quiet_nothing}
use Rattle.laws_base.proofs.MasterMoves.{Core, IsPlainOrder, Nothing, NoneEnded, Keeps, plain_nothing}
use Rattle.laws_base.proofs.MasterSteps.{no_input, goes_named}
use Rattle.laws_base.proofs.MembersRecorded.{all_at, all_in_order}
use Rattle.laws_base.proofs.MessagesSent.{IsSent, sent_cases, none_sent, numbered_sent}
use Rattle.laws_base.proofs.NamesReached.{naming_keeps, IsUpToLog, IsLogged}
use Rattle.laws_base.proofs.RowsLogged.{IsFoundRows, IsRowedLog}
use Rattle.laws_base.proofs.RowsKept.{rows_kept}
use Rattle.laws_base.proofs.RevokesNumbered.{IsRowing}
use Rattle.laws_base.proofs.RevokedLeases.{IsOfRevoked, revoked_kept}
use Rattle.laws_base.proofs.EndsToldByMaster.{TellsNoEnd, TellNoEnds, quiet_ends, server_tells, restarts_tell}
use Rattle.laws_base.proofs.ScenesReached.{Scene, IsKeptByScenes, scene_reached}
use Rattle.laws_base.proofs.RisingRounds.{restart_silent}
use Rattle.laws_base.proofs.SentGrants.{some_counted}

abbrev HasNumber : OrderNo → Handle → Version → Moment → List ℕ → Type 0
HasNumber order handle version end_moment members = 1 ≤ version.0

abbrev IsFromOne : Body → Type 0
IsFromOne b = OfGrant HasNumber b

abbrev AreFromOne : List Message → Type 0
AreFromOne ms = AllOf (λ m. IsFromOne m.body) ms

plain_one : (b : Body) → IsPlainOrder b → IsFromOne b
plain_one b plain = of_nothing HasNumber b (plain_nothing b plain)

quiet_one : (b : Body) → is_of_lease b ≡ false → IsFromOne b
quiet_one b quiet = of_nothing HasNumber b (quiet_nothing b quiet)

-- one that tells no end
untold_one : (b : Body) → TellsNoEnd b → IsFromOne b
untold_one b none = of_nothing HasNumber b (untold_nothing b none)

untold_all : (ms : List Message) → TellNoEnds ms → AreFromOne ms
untold_all [] none = tt
untold_all (m ∷ ms) none = (untold_one m.body none.0, untold_all ms none.1)

-- a step of the master

above_zero : (low version : ℕ) → low < version → 1 ≤ version
above_zero low version less = omega (arith, less)

said : (c : Core) (m : Message) → IsFromOne m.body → AreFromOne c.sent → AreFromOne (c.sent ++ m ∷ [])
said c m fits h = all_joined (λ (x : Message). IsFromOne x.body) c.sent (m ∷ []) h (fits, tt)

one_keeps : (start : LogDisk) → Keeps (Unit {0}) Nothing NoneEnded (λ c. IsRowing start c × AreFromOne c.sent)
one_keeps start =
    let base : Keeps (Unit {0}) Nothing NoneEnded (IsRowing start) = naming_keeps IsFoundRows IsRowedLog rows_kept start NoneEnded in
    record {
      sound = λ asks c h. base.sound asks c h.0;
      tells = λ c receiver b quiet h. (base.tells c receiver b quiet h.0, said c _ (quiet_one b quiet) h.1);
      orders = λ c server b is plain h. (base.orders c server b is plain h.0, said c _ (plain_one (b _) (plain _)) h.1);
      revokes = λ c handle row is h. (base.revokes c handle row is h.0, said c _ tt h.1);
      grants = λ c handle version until primary members told due names from idle h. (base.grants c handle version until primary members told due names from idle h.0, said c _ (above_zero (due.0).granted version (due.2 tt)) h.1);
      appends = λ c r due plain names h. (base.appends c r due plain names h.0, h.1);
      checkpoint = λ c tree h. (base.checkpoint c tree h.0, h.1);
      less = λ c handles copied h. (base.less c handles copied h.0, h.1);
      ends = λ c handle row is word h. (base.ends c handle row is word h.0, h.1);
      extends = λ c handle until row is lasts later from h. (base.extends c handle until row is lasts later from h.0, said c _ tt h.1);
    }

ends_one : (m : MasterState) (d : MasterDoing) (choice : Choice) (e : Ending) → AreFromOne d.sent → AreFromOne (master_ends m d choice e).out.sent
ends_one m d choice Goes h = all_in_order (λ (x : Message). IsFromOne x.body) choice.order d.sent h
ends_one m d choice Lost h = tt
ends_one m d choice (Stops made) h = tt

step_one : (m : MasterState) (moment : ℕ) (i : NodeInput) (choice : Choice) → IsLogged IsFoundRows IsRowedLog rows_kept m → AreFromOne (master_step m moment i choice).out.sent
step_one m moment i choice logged =
    let d : MasterDoing = master_goes m moment i choice.refused in
    let good : Taken MasterState → Type 0 = λ t. AreFromOne t.out.sent in
    on_cond good m.up (master_bounded m i d choice) (no_step m)
    (λ up. on_cond good (may_end m i d choice.ending) (master_ends m d choice choice.ending) (no_step m)
    (λ _.
    let u : IsUpToLog IsFoundRows IsRowedLog rows_kept m = logged.up up in
    let end = goes_named NoneEnded (λ c. IsRowing m.disk c × AreFromOne c.sent) (one_keeps m.disk) m moment i choice.refused (no_input i) u.bound u.names u.ready
    (record { none = u.idle; disk = refl; same = u.same; tied = u.tied; stops = logged.found [] }, tt) in
    ends_one m d choice choice.ending (end.0).1)
    (λ _. tt))
    (λ _. tt)

-- what was sent

abbrev AllFromOne : List Message → Type 0
AllFromOne sent = (m : Message) → IsSent sent m → IsFromOne m.body

one_later : (k : ℕ) (sent ms : List Message) → AreFromOne ms → AllFromOne sent → AllFromOne (sent ++ stamped k ms)
one_later k sent ms all h m is =
    elim (sent_cases sent (stamped k ms) m is) [
      | inl before ↦ h m before
      | inr new ↦
          let was = numbered_sent k ms new.0 m new.1 in
          subst (λ (b : Body). IsFromOne b) was.2.2 (all_at (λ (x : Message). IsFromOne x.body) ms (was.1).0 was.0 all (was.1).1)
    ]

record IsOfGrants (x : Scene) : Type 0 where
  base : IsOfRevoked x
  all : AllFromOne x.sent

grants_kept : IsKeptByScenes IsOfGrants
grants_kept =
    record {
      new = λ config servers clients. record { base = revoked_kept.new config servers clients; all = λ m is. none_sent m is };
      passes = λ x moment h. record { base = revoked_kept.passes x moment h.base; all = h.all };
      says = λ x k ms quiet h. record { base = revoked_kept.says x k ms quiet h.base; all = one_later k x.sent ms (untold_all ms (quiet_ends ms quiet)) h.all };
      masters = λ x k moment i choice now is up h.
          record { base = revoked_kept.masters x k moment i choice now is up h.base; all = one_later k x.sent (master_step x.master moment i choice).out.sent (step_one x.master moment i choice h.base.sent.logged) h.all };
      opens = λ x k moment choice now h.
          record { base = revoked_kept.opens x k moment choice now h.base; all = one_later k x.sent (master_restart x.master moment choice).out.sent (restart_silent (λ m. IsFromOne m.body) x.master moment choice) h.all };
      serves = λ x k index moment s i choice now at is up h.
          record { base = revoked_kept.serves x k index moment s i choice now at is up h.base; all = one_later k x.sent (server_step s moment i choice).out.sent (untold_all (server_step s moment i choice).out.sent (server_tells s moment i choice)) h.all };
      restarts = λ x k index moment s choice now at h.
          record {
            base = revoked_kept.restarts x k index moment s choice now at h.base;
            all = one_later k x.sent (server_restart s moment choice).out.sent (untold_all (server_restart s moment choice).out.sent (restarts_tell s moment choice choice.ending)) h.all;
          };
      rots = λ x index c s e is at up h. record { base = revoked_kept.rots x index c s e is at up h.base; all = h.all };
    }

from_one : (handle version : ℕ) (b : Body) → is_grant handle version b ≡ true → IsFromOne b → 1 ≤ version
from_one handle version b is low = of_grant HasNumber (grant_parts handle version b is).3 low

-- a version that was granted is 1 at least
pub granted_from_one : (config : Config) (servers clients : ℕ) (w : WorldState) → IsReached config servers clients w → (handle version : ℕ) → 1 ≤ grants_of handle version w.sent → 1 ≤ version
granted_from_one config servers clients w r handle version some =
    let one = some_counted (λ m. is_grant handle version m.body) w.sent some in
    from_one handle version (one.0).body one.2 ((scene_reached IsOfGrants grants_kept config servers clients w r).all one.0 one.1)
