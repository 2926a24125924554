-- A whole step in a reached world: the machine follows it, and each log that a stop may leave.
use Rattle.std.proofs.Common.{◌≡◌, ℕ, Bool, true, List, [], refl, sym, ap, subst, ◌∙◌, inl}
use Rattle.std.specs.Prelude.{IsTrue}
use Rattle.std.specs.FinMap as table
use Rattle.gfs_types.specs.declared.config.Config.{Config}
use Rattle.messages.specs.declared.event.NodeInput.{NodeInput}
use Rattle.relaxed_file.specs.Machine.{Machine}
use Rattle.protocol.specs.Tables.{Table}
use Rattle.protocol.specs.Logged.{Logged, KeptCall, LogChange}
use Rattle.protocol.specs.Master.{MasterDoing, PendingSnapshot, master_begins}
use Rattle.protocol.specs.MasterStep.{master_at, master_goes}
use Rattle.protocol.specs.World.{WorldState, IsReached}
use Rattle.laws_base.proofs.OrderNumbers.{state_of, AllStops, found_stopped}
use Rattle.laws_base.proofs.LoggedParts.{Parts, parts_of}
use Rattle.laws_base.proofs.MasterMoves.{NoneEnded}
use Rattle.laws_base.proofs.MasterSteps.{no_input, goes_named}
use Rattle.laws_base.proofs.CountsLogged.{IsFoundCounts, IsCountedLog}
use Rattle.laws_base.proofs.CountsKept.{counts_kept}
use Rattle.laws_base.proofs.NamesReached.{IsNaming, naming_keeps, IsUpToLog, logged_here}
use Rattle.laws_names.specs.Alike.{Requests, AreUntaken, AreAlike}
use Rattle.laws_names.proofs.LocksAndFiles.{chunks_change_no_names}
use Rattle.laws_names.specs.Followed.{AreKeptOn}
use Rattle.laws_names.proofs.Moves.{stays, kept_same}
use Rattle.laws_names.proofs.WaitingSnapshotsWalk.{begins_live}
use Rattle.laws_names.proofs.Unrefused.{waiting_snapshots_are_unrefused}
use Rattle.laws_names.proofs.Expiring.{expiring_files_are_old}
use Rattle.laws_names.specs.FollowedSteps.{ComesTo, IsAtStep, IsInputOfOpenCall, log_left, StepsAreFollowed, StoppedStepsAreFollowed}
use Rattle.laws_names.specs.NameTrails.{IsBesideLog, StepsGoByRecords}
use Rattle.laws_names.proofs.Following.{IsGoodLog, IsFollowedTo, IsFollowing, HasLog}
use Rattle.laws_names.proofs.FollowedStepsWalk.{Comes, goes_at}
use Rattle.chunk_table.specs.ChunkTable.{shape_of}
use Rattle.laws_base.proofs.ShapesTold.{log_has_the_shapes}

-- a log that has the state's names, counters, answers and files, with their shapes
log_alike : (l k : Logged) (ss : List PendingSnapshot) (n : Machine) (requests : Requests) → parts_of l ≡ parts_of k → l.table.files ≡ k.table.files
    → ((file : ℕ) → table.contains_key l.table.files file ≡ true → shape_of l.table file ≡ shape_of k.table file) → AreAlike l ss n requests → AreAlike k [] n requests
log_alike l k ss n requests same files shapes a =
    record {
      names = ap (λ (p : Parts). p.names) (sym same) ∙ a.names;
      next = ap (λ (p : Parts). p.next_file) (sym same) ∙ a.next;
      files = λ file. ap (λ t. table.contains_key t file) (sym files) ∙ a.files file;
      shapes = λ file has. let had = ap (λ t. table.contains_key t file) files ∙ has in sym (shapes file had) ∙ a.shapes file had;
      kept = λ client x is. a.kept client x (ap (λ (p : Parts). table.get p.kept client) same ∙ is);
      untaken = subst (λ (t : Table KeptCall). AreUntaken t n requests) (ap (λ (p : Parts). p.kept) same) a.untaken;
      locks = tt;
    }

module _ (config : Config) (servers clients : ℕ) (w : WorldState) (r : IsReached config servers clients w) (up : IsTrue w.master.up) (moment : ℕ) (i : NodeInput) (refused : List Bool) (n : Machine) (requests : Requests)
    (h : IsAtStep config (master_at w.master moment) n requests) (of : IsInputOfOpenCall (master_begins (master_at w.master moment) refused) n requests i)
  where
    known : IsUpToLog IsFoundCounts IsCountedLog counts_kept w.master
    known = (logged_here IsFoundCounts IsCountedLog counts_kept config servers clients w r).1.up up

    abbrev done : MasterDoing
    done = master_goes w.master moment i refused

    comes : ComesTo n n requests
    comes = record { run = stays n; told = λ x t. t }

    alone : AreAlike (state_of w.master.disk) [] n requests
    alone = log_alike w.master.logged (state_of w.master.disk) (master_at w.master moment).snapshots n requests known.same known.tied.base.files (λ file has. (log_has_the_shapes config servers clients w r up file has).0) h.alike

    beside : IsBesideLog requests n w.master.disk w.master.disk n
    beside = record { comes = comes; alike = alone; kept_on = kept_same requests (state_of w.master.disk).kept }

    begun : IsFollowing config requests n w.master.disk n w.master.logged w.master.disk [] [] (master_at w.master moment).snapshots
    begun =
        record {
          alike = h.alike;
          told = tt;
          run = h.run;
          comes = comes;
          kept_on = λ client. inl (ap (λ (p : Parts). table.get p.kept client) known.same);
          log = λ good. record { disk = refl; same = known.same; alone = alone; stops = (n, comes, alone, kept_same requests (state_of w.master.disk).kept); trail = ([], refl) };
        }

    -- what the log has kept is what the state has
    kept_since : (now : Table KeptCall) → AreKeptOn requests (state_of w.master.disk).kept now → AreKeptOn requests w.master.logged.kept now
    kept_since now h = subst (λ (p : Parts). AreKeptOn requests p.kept now) (sym known.same) h

    goes : Comes config requests n w.master.disk n done
    goes =
        goes_at config requests n w.master.disk n (master_begins (master_at w.master moment) refused) i of h.settings h.timely (λ handle c is. known.tied.base.here.copied handle c is)
        (expiring_files_are_old config servers clients w r up moment) (λ file one other at too. known.tied.base.here.named.one one other file at too)
        (begins_live w.master moment refused (waiting_snapshots_are_unrefused config servers clients w r up)) begun

    sound : AllStops IsGoodLog w.master.disk done.changes
    sound =
        (goes_named NoneEnded (IsNaming IsFoundCounts IsCountedLog counts_kept w.master.disk) (naming_keeps IsFoundCounts IsCountedLog counts_kept w.master.disk NoneEnded) w.master moment i refused (no_input i) known.bound known.names known.ready
        (record { none = known.idle; disk = refl; same = known.same; tied = known.tied; stops = (logged_here IsFoundCounts IsCountedLog counts_kept config servers clients w r).1.found [] })).0.stops

pub steps_are_followed : StepsAreFollowed
steps_are_followed config servers clients w r up moment i refused n requests h of =
    let end = goes config servers clients w r up moment i refused n requests h of in
    (end.0, (end.2).comes, record { alike = (end.2).alike; told = (end.2).told }, kept_since config servers clients w r up moment i refused n requests h of (master_goes w.master moment i refused).master.logged.kept (end.2).kept_on)

pub stopped_steps_are_followed : StoppedStepsAreFollowed
stopped_steps_are_followed config servers clients w r up moment i refused n requests h of made decided =
    let end = goes config servers clients w r up moment i refused n requests h of in
    let changes : List LogChange = (master_goes w.master moment i refused).changes in
    let log : HasLog config requests n w.master.disk end.0 _ _ changes = (end.2).log (sound config servers clients w r up moment i refused n requests h of) in
    let left = found_stopped (IsFollowedTo config requests n w.master.disk) w.master.disk changes made log.stops decided in
    let read : Logged = state_of (log_left w.master.disk changes made decided) in
    (left.0, left.1, (chunks_change_no_names read [] left.0 requests left.2).1 (table.keys read.copies), kept_since config servers clients w r up moment i refused n requests h of read.kept left.3)

pub steps_go_by_records : StepsGoByRecords
steps_go_by_records config servers clients w r up moment i refused n requests h of =
    let end = goes config servers clients w r up moment i refused n requests h of in
    let log : HasLog config requests n w.master.disk end.0 _ _ (master_goes w.master moment i refused).changes = (end.2).log (sound config servers clients w r up moment i refused n requests h of) in (
      end.0,
      (end.2).comes,
      record { alike = (end.2).alike; told = (end.2).told },
      kept_since config servers clients w r up moment i refused n requests h of (master_goes w.master moment i refused).master.logged.kept (end.2).kept_on,
      beside config servers clients w r up moment i refused n requests h of,
      log.trail,
    )
