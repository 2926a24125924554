-- What the master drops, and versions that stay below the granted one, as the laws say it.
use Rattle.std.proofs.Common.{◌≡◌, ℕ, ◌<◌, true, [], Some, None, refl, sym, ap, ◌∙◌, arith}
use Rattle.std.proofs.lemmas.Bool.{ltb-true}
use Rattle.gfs_types.specs.declared.ids.Node.{Node}
use Rattle.gfs_types.specs.declared.ids.Node.TheVariants as node
use Rattle.gfs_types.specs.declared.ids.OrderNo.{OrderNo}
use Rattle.messages.specs.declared.event.NodeInput.{NodeInput}
use Rattle.messages.specs.declared.message.Body.{Body}
use Rattle.messages.specs.declared.message.Body.TheVariants as body
use Rattle.messages.specs.declared.message.Message.{Message}
use Rattle.messages.specs.declared.message.ReplicaLine.{ReplicaLine}
use Rattle.chunk_table.specs.ChunkTable.{chunk_of}
use Rattle.protocol.specs.Sending.{message, moment_of, the_server}
use Rattle.protocol.specs.Logged.{Logged, replayed}
use Rattle.protocol.specs.MasterReports.{is_useless}
use Rattle.protocol.specs.World.{WorldState, after_events}
use Rattle.laws_base.proofs.Steps.{none_some, same_some}
use Rattle.laws_base.proofs.MembersRecorded.{all_at}
use Rattle.laws_base.proofs.RevokedLeases.{IsOfRevoked, revoked_kept}
use Rattle.laws_base.proofs.ScenesReached.{scene_of, scene_reached, goes_on}
use Rattle.laws_base.proofs.MasterPremises.{IsReplicaTaken, IsAnswer, IsOrder, AnyDoing, any_kept, MasterSays}
use Rattle.laws_base.proofs.MasterWalk.{step_says}
use Rattle.laws_versions.specs.OutdatedVersions.{version_dropped, IsUselessReplica, DropsAreOfUselessReplicas, IsNeverCurrent, OutdatedVersionsStayOutdated}
use Rattle.laws_versions.proofs.OutdatedVersions.{IsOutdated, AreGoing, StaysOutdated, stays_outdated, outdated_now}

module _ (l : Logged) (i : NodeInput) where
  -- a Drop is of a useless replica of its receiver
  abbrev IsDue : Message → Type 0
  IsDue x = (handle version : ℕ) → version_dropped x.body ≡ Some (handle, version) → IsUselessReplica l i x.receiver handle version

  others_due : (receiver : Node) (b : Body) → version_dropped b ≡ None → IsDue (message node.Master receiver b)
  others_due receiver b none handle version is = none_some (handle, version) (sym none ∙ is)

  no_answer : (receiver : Node) (b : Body) → IsAnswer l i AnyDoing receiver b → version_dropped b ≡ None
  no_answer receiver (body.Drop order handle version) is = absurd is
  no_answer receiver other is = refl

  no_order : (server : ℕ) (b : Body) → IsOrder i AnyDoing server b → version_dropped b ≡ None
  no_order server (body.Drop order handle version) is = absurd is
  no_order server other is = refl

  line_due : (server : ℕ) (order : OrderNo) (line : ReplicaLine) → IsReplicaTaken i server line → is_useless line.version.0 (chunk_of l.table line.handle.0) ≡ true
      → IsDue (message node.Master (the_server server) (body.Drop order line.handle line.version))
  line_due server order line taken useless handle version said =
      let same = same_some (line.handle.0, line.version.0) (handle, version) said in
      let key : line.handle.0 ≡ handle = ap (λ (p : ℕ × ℕ). p.0) same in
      let number : line.version.0 ≡ version = ap (λ (p : ℕ × ℕ). p.1) same in
      record {
        report = taken.report;
        replicas = taken.replicas;
        leases = taken.leases;
        taken = taken.taken;
        is_report = taken.is;
        sender = ap the_server taken.sender;
        reported = (taken.place, line, taken.at, key, number);
        useless = λ row there.
            let here : chunk_of l.table line.handle.0 ≡ Some row = ap (λ (n : ℕ). chunk_of l.table n) key ∙ there in
            let old : line.version.0 < row.granted = ltb-true line.version.0 row.granted (sym (ap (is_useless line.version.0) here) ∙ useless) in
            omega (arith, old, number);
      }

  says : MasterSays l i AnyDoing IsDue
  says =
      record {
        answered = λ receiver b is. others_due receiver b (no_answer receiver b is);
        ordered = λ server b is. others_due (the_server server) b (no_order server b is);
        extended = λ server line until is. others_due (the_server server) (body.Extend line.handle line.version (moment_of until)) refl;
        dropped = line_due;
      }

pub drops_are_of_useless_replicas : DropsAreOfUselessReplicas
drops_are_of_useless_replicas m moment i choice place drop at =
    all_at (IsDue m.logged i) _ place drop (step_says m moment i choice AnyDoing any_kept tt (IsDue m.logged i) (says m.logged i)) at

pub never_current : (l : Logged) (handle version : ℕ) → IsOutdated handle version l → IsNeverCurrent l handle version
never_current l handle version h = record { used = h.0; older = λ row at. h.1 handle row at refl }

pub outdated : (l : Logged) (handle version : ℕ) → IsNeverCurrent l handle version → IsOutdated handle version l
outdated l handle version h = (h.used, λ q row at same. h.older row (ap (λ (n : ℕ). chunk_of l.table n) (sym same) ∙ at))

pub outdated_versions_stay_outdated : OutdatedVersionsStayOutdated
outdated_versions_stay_outdated config servers clients w r up handle version h steps =
    let base : IsOfRevoked (scene_of w) = scene_reached IsOfRevoked revoked_kept config servers clients w r in
    let start : StaysOutdated handle version (scene_of w) = record { base = base; going = outdated_now handle version w.master base.sent.logged up (outdated w.master.logged handle version h) } in
    let v : WorldState = after_events w steps in
    let going : AreGoing handle version v.master = (goes_on (StaysOutdated handle version) (stays_outdated handle version) w steps start).going in
    (never_current (replayed v.master.disk) handle version (going.found []), λ on. never_current v.master.logged handle version (going.up on))
