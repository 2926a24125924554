-- A master that opens: the machine beside the log that was decided is beside it, and beside each log that a stop may leave.
use Rattle.std.proofs.Common.{ℕ, suc, [], refl, ◌∙◌}
use Rattle.std.specs.Prelude.{◌&&◌, not}
use Rattle.std.specs.FinMap as table
use Rattle.gfs_types.specs.declared.config.Config.{Config}
use Rattle.log_records.specs.declared.record.Record.{Record}
use Rattle.log_records.specs.declared.record.Record.TheVariants as log
use Rattle.relaxed_file.specs.Machine.{Machine}
use Rattle.protocol.specs.LogSizes.{checkpoint_fits}
use Rattle.protocol.specs.Logged.{Logged, LogDisk, checkpoint_of, replayed}
use Rattle.protocol.specs.Master.{MasterState, MasterDoing, master_begins, fits, appends, writes_checkpoint, logs_after_checkpoint, is_of_copy}
use Rattle.protocol.specs.MasterStep.{found_log, started_master, opening}
use Rattle.laws_base.proofs.Steps.{on_cond}
use Rattle.laws_base.proofs.OrderNumbers.{state_of, AllStops, found_stopped}
use Rattle.laws_base.proofs.CountsLogged.{IsFoundCounts, IsCountedLog}
use Rattle.laws_base.proofs.CountsKept.{counts_kept}
use Rattle.laws_base.proofs.NamesReached.{opening_naming, logged_here}
use Rattle.laws_names.specs.Alike.{Requests, AreAlike}
use Rattle.laws_names.proofs.LocksAndFiles.{chunks_change_no_names}
use Rattle.laws_names.specs.Followed.{AreKeptOn}
use Rattle.laws_names.proofs.Moves.{stays, kept_same}
use Rattle.laws_names.specs.FollowedSteps.{ComesTo, log_left, RestartsAreFollowed}
use Rattle.laws_names.specs.NameTrails.{RestartsGoByRecords}
use Rattle.laws_names.proofs.Following.{IsGoodLog, IsFollowedTo, HasLog, chunk_log, checkpoint_log}
use Rattle.laws_base.proofs.ShapesTold.{IsFoundTold, IsToldLog, told_kept, known_shapes}
use Rattle.gfs_types.specs.Shapes.{usual_shape}

still_here : (n : Machine) (requests : Requests) → ComesTo n n requests
still_here n requests = record { run = stays n; told = λ x t. t }

module _ (config : Config) (requests : Requests) (n : Machine) (found : LogDisk) where
  abbrev Opens : MasterDoing → Type 0
  Opens d = AreAlike d.master.logged d.master.snapshots n requests × AreKeptOn requests (state_of found).kept d.master.logged.kept × (AllStops IsGoodLog found d.changes → HasLog config requests n found n d.master.logged d.master.disk d.changes)

  epoch_opens : (d : MasterDoing) (epoch : ℕ) → Opens d → Opens (appends d (log.Epoch epoch))
  epoch_opens d epoch h = (
    (chunks_change_no_names d.master.logged d.master.snapshots n requests h.0).0 (log.Epoch epoch) tt,
    h.1,
    chunk_log config requests n found n d.master.logged d.master.disk d.changes d.master.snapshots (log.Epoch epoch) (still_here n requests) h.1 tt h.0 h.2,
  )

  checkpoint_opens : (d : MasterDoing) → Opens d → Opens (writes_checkpoint d)
  checkpoint_opens d h = (
    (chunks_change_no_names d.master.logged d.master.snapshots n requests h.0).1 (table.keys d.master.logged.copies),
    h.1,
    checkpoint_log config requests n found n d.master.logged d.master.disk d.changes (still_here n requests) h.1 d.master.snapshots h.0 h.2,
  )

  begins_open : (count moment : ℕ) → IsFoundTold (state_of found) → AreAlike (replayed found) [] n requests → Opens (master_begins (started_master config count found moment) [])
  begins_open count moment told a =
      let alone : AreAlike (state_of found) [] n requests = record { names = a.names; next = a.next; files = a.files; shapes = a.shapes; kept = a.kept; untaken = a.untaken; locks = tt } in (
        record {
          names = a.names;
          next = a.next;
          files = a.files;
          shapes = λ file has. known_shapes (usual_shape config) (state_of found) told file has ∙ a.shapes file has;
          kept = a.kept;
          untaken = a.untaken;
          locks = tt;
        },
        kept_same requests (state_of found).kept,
        λ good. record { disk = refl; same = refl; alone = alone; stops = (n, still_here n requests, alone, kept_same requests (state_of found).kept); trail = ([], refl) },
      )

  pub opening_opens : (count moment : ℕ) → IsFoundTold (state_of found) → AreAlike (replayed found) [] n requests → Opens (opening (started_master config count found moment))
  opening_opens count moment told a =
      let d : MasterDoing = master_begins (started_master config count found moment) [] in
      let epoch : ℕ = suc d.master.logged.epoch in
      let r : Record = log.Epoch epoch in
      let one : Opens d = begins_open count moment told a in
      let two : Opens (writes_checkpoint d) = checkpoint_opens d one in
      on_cond Opens (fits d r) (appends d r) _ (λ _. epoch_opens d epoch one)
      (λ _. on_cond Opens (checkpoint_fits d.master.config.log_bytes (checkpoint_of d.master.logged)) (logs_after_checkpoint (writes_checkpoint d) r (is_of_copy d.master.logged r) (λ e. e)) d
      (λ _. on_cond Opens (fits (writes_checkpoint d) r && not (is_of_copy d.master.logged r)) (appends (writes_checkpoint d) r) (writes_checkpoint d) (λ _. epoch_opens (writes_checkpoint d) epoch two) (λ _. two))
      (λ _. one))

pub restarts_are_followed : RestartsAreFollowed
restarts_are_followed config servers clients w r moment choice n requests a =
    let m : MasterState = w.master in
    let found : LogDisk = found_log m choice in
    let known = logged_here IsFoundCounts IsCountedLog counts_kept config servers clients w r in
    let d : MasterDoing = opening (started_master m.config m.server_count found moment) in
    let sound : AllStops IsGoodLog found d.changes = (opening_naming IsFoundCounts IsCountedLog counts_kept m.config m.server_count found moment (known.1.found choice.decided) (known.0.found choice.decided)).0.stops in
    let told : IsFoundTold (state_of found) = ((logged_here IsFoundTold IsToldLog told_kept config servers clients w r).1.found choice.decided).1 in
    let end = opening_opens m.config requests n found m.server_count moment told a in
    let log : HasLog m.config requests n found n d.master.logged d.master.disk d.changes = end.2 sound in (
      end.0,
      end.1,
      λ made decided.
          let left = found_stopped (IsFollowedTo m.config requests n found) found d.changes made log.stops decided in
          let read : Logged = state_of (log_left found d.changes made decided) in
          (left.0, left.1, (chunks_change_no_names read [] left.0 requests left.2).1 (table.keys read.copies), left.3),
    )

pub restarts_go_by_records : RestartsGoByRecords
restarts_go_by_records config servers clients w r moment choice n requests a =
    let m : MasterState = w.master in
    let found : LogDisk = found_log m choice in
    let known = logged_here IsFoundCounts IsCountedLog counts_kept config servers clients w r in
    let d : MasterDoing = opening (started_master m.config m.server_count found moment) in
    let sound : AllStops IsGoodLog found d.changes = (opening_naming IsFoundCounts IsCountedLog counts_kept m.config m.server_count found moment (known.1.found choice.decided) (known.0.found choice.decided)).0.stops in
    let told : IsFoundTold (state_of found) = ((logged_here IsFoundTold IsToldLog told_kept config servers clients w r).1.found choice.decided).1 in
    let end = opening_opens m.config requests n found m.server_count moment told a in
    let log : HasLog m.config requests n found n d.master.logged d.master.disk d.changes = end.2 sound in (
      record {
        comes = still_here n requests;
        alike = record { names = a.names; next = a.next; files = a.files; shapes = a.shapes; kept = a.kept; untaken = a.untaken; locks = tt };
        kept_on = kept_same requests (state_of found).kept;
      },
      log.trail,
    )
