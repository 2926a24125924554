-- In each reached world no version attempt and no copy is under way for what a snapshot waits for.
use Rattle.std.proofs.Common.{◌≡◌, ℕ, suc, List, [], Some, refl, sym, subst, ◌∙◌}
use Rattle.std.specs.Prelude.{◌&&◌}
use Rattle.std.specs.Ordering.{nat_cmp}
use Rattle.std.specs.FinMap as table
use Rattle.gfs_types.specs.declared.config.Config.{Config}
use Rattle.messages.specs.declared.event.NodeInput.{NodeInput}
use Rattle.messages.specs.declared.event.NodeInput.TheVariants as input
use Rattle.messages.specs.declared.message.Message.{Message}
use Rattle.messages.specs.declared.message.Body.{Body}
use Rattle.messages.specs.declared.message.Body.TheVariants as body
use Rattle.log_records.specs.declared.record.Record.TheVariants as log
use Rattle.protocol.specs.Tables.{removed_all}
use Rattle.protocol.specs.Choice.{Choice, Ending, Goes, Lost, Stops, made_changes, change_under_way}
use Rattle.protocol.specs.Seen.{Taken, no_step}
use Rattle.protocol.specs.Logged.{LogDisk, LogChange, log_changed_by_all}
use Rattle.protocol.specs.Master.{MasterState, MasterDoing, VersionAttempt, PendingSnapshot, stopped_master, master_begins}
use Rattle.protocol.specs.MasterStep.{master_goes, master_ends, master_bounded, master_step, is_within_limits, may_end, found_log, started_master, opening, has_opened, opens_as, master_restart, new_master}
use Rattle.protocol.specs.World.{WorldState, IsReached}
use Rattle.laws_base.proofs.Steps.{on_cond, none_some, removed_cases}
use Rattle.laws_base.proofs.Namespace.{IsAmong}
use Rattle.laws_base.proofs.MasterMoves.{Core, NoneEnded, logs_alone}
use Rattle.laws_base.proofs.NamesReached.{IsUpToLog, IsLogged}
use Rattle.laws_base.proofs.RowsLogged.{IsFoundRows, IsRowedLog}
use Rattle.laws_base.proofs.RowsKept.{rows_kept}
use Rattle.laws_base.proofs.RevokesNumbered.{IsOfRevokes, revokes_kept}
use Rattle.laws_base.proofs.SentReached.{IsKeptBySent, sent_reached}
use Rattle.laws_base.proofs.MasterActs.{IsRowing, rowing_keeps, Waits, Acts}
use Rattle.laws_base.proofs.Awaited.{Attempts, AreWaiting}
use Rattle.laws_base.proofs.ActsOfSteps.{IsWordSaid, IsInputSaid, goes_acts}

-- where nothing more is asked of a step

abbrev pub Anything : Core → Attempts → Waits → Type 0
Anything c attempts ss = Unit {0}

pub any_acts : (start : LogDisk) → Acts start NoneEnded (IsRowing start) Anything
any_acts start =
    record {
      tells = λ c attempts ss receiver b quiet h. h;
      orders = λ c attempts ss server b is plain none h. h;
      gives = λ c attempts ss server handle a b at has plain given h. h;
      revokes = λ c attempts ss handle row is h. h;
      appends = λ c attempts ss r due plain beside n after h. h;
      checkpoint = λ c attempts ss tree n after h. h;
      less = λ c attempts ss handles copied n h. h;
      fewer = λ c attempts left ss from h. h;
      waits = λ c attempts ss more h. h;
      issues = λ c attempts ss handle row a is next alone n before h. h;
      copies = λ c attempts ss file index source copy a next n before h. h;
      records = λ c attempts ss handle a b at same servers h. h;
      grants = λ c attempts ss handle a until primary members at all due n after h. h;
      ends = λ c attempts ss handle row is word n h. h;
      extends = λ c attempts ss handle until row is lasts n h. h;
    }

pub any_word : (b : Body) → IsWordSaid NoneEnded b
any_word (body.Revoked handle version) = tt
any_word other = tt

pub any_input : (i : NodeInput) → IsInputSaid NoneEnded i
any_input (input.Deliver m) = any_word m.body
any_input input.Tick = tt

-- the master between its steps

abbrev pub WaitsHere : MasterState → Type 0
WaitsHere m = AreWaiting m.logged m.attempts m.snapshots

-- a master that has forgotten attempts and snapshots
record HasForgotten (m : MasterState) : Type 0 where
  tried : (handle : ℕ) (a : VersionAttempt) → table.get m.attempts handle ≡ Some a → ⊥
  waits : (s : PendingSnapshot) → IsAmong m.snapshots s → ⊥

forgotten_waits : (m : MasterState) → HasForgotten m → WaitsHere m
forgotten_waits m h = (λ handle a is. absurd (h.tried handle a is), λ s among. absurd (h.waits s among), λ s t one two other. absurd (h.waits s one))

stopped_waits : (m : MasterState) (disk : LogDisk) (under_way : List LogChange) → WaitsHere (stopped_master m disk under_way)
stopped_waits m disk under_way =
    forgotten_waits (stopped_master m disk under_way) (record { tried = λ handle a is. none_some a (sym (table.get-empty nat_cmp handle) ∙ is); waits = λ s among. among })

opened_waits : (m : MasterState) → m.snapshots ≡ [] → ((handle : ℕ) (a : VersionAttempt) → table.get m.attempts handle ≡ Some a → ⊥) → WaitsHere (opening m).master
opened_waits m none tried =
    let d : MasterDoing = master_begins m [] in
    let waits : (s : PendingSnapshot) → IsAmong m.snapshots s → ⊥ = λ s among. subst (λ (ss : List PendingSnapshot). IsAmong ss s) none among in
    let now : HasForgotten m = record { tried = tried; waits = waits } in
    let left : (handle : ℕ) (a : VersionAttempt) → table.get (removed_all m.attempts (table.keys m.logged.copies)) handle ≡ Some a → ⊥ = λ handle a is. tried handle a (removed_cases m.attempts (table.keys m.logged.copies) handle a is) in
    forgotten_waits (opening m).master
    (logs_alone (λ e. HasForgotten e.master) d (log.Epoch (suc m.logged.epoch)) now (record { tried = tried; waits = waits }) (record { tried = left; waits = waits }) (record { tried = left; waits = waits }))

step_waits : (m : MasterState) (moment : ℕ) (i : NodeInput) (choice : Choice) → IsLogged IsFoundRows IsRowedLog rows_kept m → WaitsHere m → WaitsHere (master_step m moment i choice).state
step_waits m moment i choice logged h =
    let d : MasterDoing = master_goes m moment i choice.refused in
    let good : Taken MasterState → Type 0 = λ t. WaitsHere t.state in
    on_cond good m.up (master_bounded m i d choice) (no_step m)
    (λ up. on_cond good (may_end m i d choice.ending) (master_ends m d choice choice.ending) (no_step m)
    (λ _.
    let u : IsUpToLog IsFoundRows IsRowedLog rows_kept m = logged.up up in
    let end =
    goes_acts NoneEnded (IsRowing m.disk) Anything m moment i choice.refused (rowing_keeps m.disk) (λ c n. n) (any_acts m.disk) (any_input i) logged up h
    (record { none = u.idle; disk = refl; same = u.same; tied = u.tied; stops = logged.found [] }) tt in
    by_ending choice.ending end.1)
    (λ _. h))
    (λ _. h)
  where
    by_ending : (e : Ending) → WaitsHere (master_goes m moment i choice.refused).master → WaitsHere (master_ends m (master_goes m moment i choice.refused) choice e).state
    by_ending Goes end = end
    by_ending Lost end = stopped_waits m m.disk []
    by_ending (Stops made) end =
        let d : MasterDoing = master_goes m moment i choice.refused in
        stopped_waits m (log_changed_by_all m.disk (made_changes made d.changes)) (change_under_way made d.changes)

opens_waits : (old : MasterState) (moment : ℕ) (choice : Choice) → WaitsHere (master_restart old moment choice).state
opens_waits old moment choice = by_ending choice.ending
  where
    started : MasterState
    started = started_master old.config old.server_count (found_log old choice) moment

    by_ending : (e : Ending) → WaitsHere (opens_as old started (opening started) choice e).state
    by_ending Lost = stopped_waits old old.disk old.under_way
    by_ending (Stops made) = stopped_waits old (log_changed_by_all started.disk (made_changes made (opening started).changes)) (change_under_way made (opening started).changes)
    by_ending Goes =
        on_cond (λ (t : Taken MasterState). WaitsHere t.state) (has_opened started (opening started) && is_within_limits (opening started).master) _ _
        (λ _. opened_waits started refl (λ handle a is. none_some a (sym (table.get-empty nat_cmp handle) ∙ is))) (λ _. stopped_waits old (opening started).master.disk [])

-- what was sent, and the master between its steps
pub record IsOfWaits (sent : List Message) (m : MasterState) : Type 0 where
  pub base : IsOfRevokes sent m
  pub waits : WaitsHere m

pub waits_kept : IsKeptBySent IsOfWaits
waits_kept =
    record {
      new = λ config servers. record {
        base = revokes_kept.new config servers;
        waits = forgotten_waits (new_master config servers) (record { tried = λ handle a is. none_some a (sym (table.get-empty nat_cmp handle) ∙ is); waits = λ s among. among });
      };
      quiet = λ sent ms k m quiet h. record { base = revokes_kept.quiet sent ms k m quiet h.base; waits = h.waits };
      steps = λ sent k m moment i choice is h. record { base = revokes_kept.steps sent k m moment i choice is h.base; waits = step_waits m moment i choice h.base.logged h.waits };
      restarts = λ sent k m moment choice h. record { base = revokes_kept.restarts sent k m moment choice h.base; waits = opens_waits m moment choice };
    }

pub waits_here : (config : Config) (servers clients : ℕ) (w : WorldState) → IsReached config servers clients w → WaitsHere w.master
waits_here config servers clients w r = (sent_reached IsOfWaits waits_kept config servers clients w r).waits
