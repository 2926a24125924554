-- A chunk that was granted or is a copy under way stays so over a step of the master, also one that stops, and over a restart.
use Rattle.std.proofs.Common.{◌≡◌, ℕ, suc, true, false, List, [], take, drop, refl, sym, subst}
use Rattle.std.specs.Prelude.{◌&&◌, IsTrue}
use Rattle.gfs_types.specs.declared.config.Config.{Config}
use Rattle.messages.specs.declared.event.NodeInput.{NodeInput}
use Rattle.messages.specs.declared.message.Message.{Message}
use Rattle.log_records.specs.declared.record.Record.{Record}
use Rattle.log_records.specs.declared.record.Record.TheVariants as log
use Rattle.relaxed_file.proofs.NamesTree.{Tree}
use Rattle.protocol.specs.Choice.{Choice, Ending, Goes, Lost, Stops}
use Rattle.protocol.specs.Seen.{Taken, no_step}
use Rattle.protocol.specs.Logged.{Logged, LogDisk, LogChange, AppendRecord, WriteCheckpoint, log_changed, log_changed_by_all, after_record, checkpoint_of, all_copies_given_up}
use Rattle.protocol.specs.Master.{MasterState, MasterDoing, stopped_master, master_begins, writes_checkpoint}
use Rattle.protocol.specs.MasterStep.{master_goes, master_ends, master_bounded, master_step, is_within_limits, may_end, found_log, started_master, opening, has_opened, opens_as, master_restart}
use Rattle.laws_base.proofs.Steps.{on_cond}
use Rattle.laws_base.proofs.MasterMoves.{Core, core_of, NoneEnded, core_changed, core_appended, core_ended, core_granted, grant_record, IsDue, IsNoGrantRecord, logs_alone}
use Rattle.laws_base.proofs.OrderNumbers.{state_of, state-appended, AllStops, stops_push, AllFound, found_same, found_stopped}
use Rattle.laws_base.proofs.GrantedIssued.{IsIssued}
use Rattle.laws_base.proofs.NamesReached.{IsGood, IsUpToLog, IsLogged, opening_first, opening_naming}
use Rattle.laws_base.proofs.RowsLogged.{IsFoundRows, IsRowedLog}
use Rattle.laws_base.proofs.RowsKept.{rows_kept}
use Rattle.laws_base.proofs.Awaited.{Attempts}
use Rattle.laws_base.proofs.MasterActs.{IsRowing, rowing_keeps, Waits, Acts}
use Rattle.laws_base.proofs.WaitsKept.{WaitsHere, any_input}
use Rattle.laws_base.proofs.ActsOfSteps.{goes_acts}
use Rattle.laws_versions.proofs.BegunRows.{IsBegun, IsLogBegun, begun_less, begun_after, begun_grant, begun_ended, begun_checkpoint, started_begun}

-- at a master between its steps, in each log that it may have and while it is up
pub record HasBegun (handle : ℕ) (m : MasterState) : Type 0 where
  pub found : AllFound (IsLogBegun handle) m.disk m.under_way
  pub up : IsTrue m.up → IsBegun handle m.logged

module _ (handle : ℕ) (Left : LogDisk → Type 0) (left : (d : LogDisk) → IsLogBegun handle d → Left d) where
  -- a step so far
  pub record IsKept (start : LogDisk) (c : Core) : Type 0 where
    pub state : IsBegun handle c.logged
    pub disk : IsLogBegun handle c.disk
    pub stops : AllStops Left start c.changes

  -- the disk and the state change together
  changed : (start : LogDisk) (c : Core) (x : LogChange) (l : Logged) → log_changed_by_all start c.changes ≡ c.disk → IsBegun handle l → IsLogBegun handle (log_changed c.disk x) → IsKept start c → IsKept start (record (core_changed c x) { logged = l })
  changed start c x l disk state written h =
      record { state = state; disk = written; stops = stops_push Left start c.changes x h.stops (left (log_changed (log_changed_by_all start c.changes) x) (subst (λ (d : LogDisk). IsLogBegun handle (log_changed d x)) (sym disk) written)) }

  appended : (start : LogDisk) (c : Core) (r : Record) → IsDue (Unit {0}) c.logged r → IsNoGrantRecord r → IsRowing start c → IsKept start c → IsKept start (core_appended c r)
  appended start c r due plain n h =
      changed start c (AppendRecord r) (after_record c.logged r) n.disk (begun_after handle c.logged c.logged r due plain h.state h.state)
      (subst (λ (k : Logged). IsBegun handle k) (sym (state-appended c.disk r)) (begun_after handle c.logged (state_of c.disk) r due plain h.state h.disk)) h

  checkpointed : (start : LogDisk) (c : Core) → Tree c.logged.names → IsRowing start c → IsKept start c → IsKept start (record (core_changed c (WriteCheckpoint (checkpoint_of c.logged))) { logged = all_copies_given_up c.logged })
  checkpointed start c tree n h =
      let both = begun_checkpoint handle c.logged c.disk n.same tree n.tied h.state in
      changed start c (WriteCheckpoint (checkpoint_of c.logged)) (all_copies_given_up c.logged) n.disk both.0 both.1 h

  ended : (start : LogDisk) (c : Core) (chunk moment : ℕ) → IsKept start c → IsKept start (core_ended c chunk moment)
  ended start c chunk moment h = record { state = begun_ended handle c.logged chunk moment h.state; disk = h.disk; stops = h.stops }

  said : (start : LogDisk) (c : Core) (ms : List Message) (count : ℕ) → IsKept start c → IsKept start (record c { sent = ms; order_count = count })
  said start c ms count h = record { state = h.state; disk = h.disk; stops = h.stops }

  granted : (start : LogDisk) (c : Core) (chunk version until primary : ℕ) (members : List ℕ) → IsDue (Unit {0}) c.logged (grant_record chunk version primary members) → IsRowing start c → IsKept start c → IsKept start (core_granted c chunk version until primary members)
  granted start c chunk version until primary members due n h =
      let r : Record = grant_record chunk version primary members in
      let one : IsKept start (core_appended c r) =
      changed start c (AppendRecord r) (after_record c.logged r) n.disk (begun_grant handle c.logged c.logged chunk version primary members due h.state)
      (subst (λ (k : Logged). IsBegun handle k) (sym (state-appended c.disk r)) (begun_grant handle c.logged (state_of c.disk) chunk version primary members due h.disk)) h in
      said start (core_ended (core_appended c r) chunk until) _ _ (ended start (core_appended c r) chunk until one)

  abbrev pub Kept : LogDisk → Core → Attempts → Waits → Type 0
  Kept start c attempts ss = IsKept start c

  pub kept_acts : (start : LogDisk) → Acts start NoneEnded (IsRowing start) (Kept start)
  kept_acts start =
      record {
        tells = λ c attempts ss receiver b quiet h. said start c _ c.order_count h;
        orders = λ c attempts ss server b is plain none h. said start c _ (suc c.order_count) h;
        gives = λ c attempts ss server chunk a b at has plain given h. said start c _ (suc c.order_count) h;
        revokes = λ c attempts ss chunk row is h. said start c _ (suc c.order_count) h;
        appends = λ c attempts ss r due plain beside n after h. appended start c r due plain n h;
        checkpoint = λ c attempts ss tree n after h. checkpointed start c tree n h;
        less = λ c attempts ss handles copied n h. record { state = begun_less handle c.logged handles h.state; disk = h.disk; stops = h.stops };
        fewer = λ c attempts tried ss from h. h;
        waits = λ c attempts ss more h. h;
        issues = λ c attempts ss chunk row a is next alone n before h. h;
        copies = λ c attempts ss file index source copy a next n before h. h;
        records = λ c attempts ss chunk a b at same servers h. h;
        grants = λ c attempts ss chunk a until primary members at all due n after h. granted start c chunk a.version until primary members due n h;
        ends = λ c attempts ss chunk row is word n h. ended start c chunk 0 h;
        extends = λ c attempts ss chunk until row is lasts n h. said start (core_ended c chunk until) _ c.order_count (ended start c chunk until h);
      }

-- between steps

module _ (handle : ℕ) where
  abbrev IsStill : LogDisk → Core → Type 0
  IsStill start c = IsKept handle (IsLogBegun handle) (λ d h. h) start c

  down_begun : (m : MasterState) (disk : LogDisk) (under_way : List LogChange) → AllFound (IsLogBegun handle) disk under_way → HasBegun handle (stopped_master m disk under_way)
  down_begun m disk under_way found = record { found = found; up = λ up. absurd (let both : false ≡ true = up in cc) }

  ends_begun : (m : MasterState) (d : MasterDoing) (choice : Choice) (e : Ending) → HasBegun handle m → IsRowing m.disk (core_of d) → IsStill m.disk (core_of d) → HasBegun handle (master_ends m d choice e).state
  ends_begun m d choice Goes h n g =
      record { found = subst (λ (xs : List LogChange). AllFound (IsLogBegun handle) d.master.disk xs) (sym n.none) (found_same (IsLogBegun handle) d.master.disk g.disk); up = λ _. g.state }
  ends_begun m d choice Lost h n g = down_begun m m.disk [] (found_same (IsLogBegun handle) m.disk (h.found []))
  ends_begun m d choice (Stops made) h n g = down_begun m (log_changed_by_all m.disk (take made d.changes)) (take 1 (drop made d.changes)) (found_stopped (IsLogBegun handle) m.disk d.changes made g.stops)

  pub step_begun : (m : MasterState) (moment : ℕ) (i : NodeInput) (choice : Choice) → IsLogged IsFoundRows IsRowedLog rows_kept m → WaitsHere m → HasBegun handle m → HasBegun handle (master_step m moment i choice).state
  step_begun m moment i choice logged waits h =
      let d : MasterDoing = master_goes m moment i choice.refused in
      let good : Taken MasterState → Type 0 = λ t. HasBegun handle t.state in
      on_cond good m.up (master_bounded m i d choice) (no_step m)
      (λ up. on_cond good (may_end m i d choice.ending) (master_ends m d choice choice.ending) (no_step m)
      (λ _.
      let u : IsUpToLog IsFoundRows IsRowedLog rows_kept m = logged.up up in
      let end =
      goes_acts NoneEnded (IsRowing m.disk) (Kept handle (IsLogBegun handle) (λ d h. h) m.disk) m moment i choice.refused (rowing_keeps m.disk) (λ c n. n)
      (kept_acts handle (IsLogBegun handle) (λ d h. h) m.disk) (any_input i) logged up waits
      (record { none = u.idle; disk = refl; same = u.same; tied = u.tied; stops = logged.found [] })
      (record { state = h.up up; disk = h.found []; stops = h.found [] }) in
      ends_begun m d choice choice.ending h end.0 end.2)
      (λ _. h))
      (λ _. h)

  -- a master that opens

  epoch_begun : (start : LogDisk) (c : Core) (epoch : ℕ) → log_changed_by_all start c.changes ≡ c.disk → IsStill start c → IsStill start (core_appended c (log.Epoch epoch))
  epoch_begun start c epoch disk h =
      changed handle (IsLogBegun handle) (λ d g. g) start c (AppendRecord (log.Epoch epoch)) (after_record c.logged (log.Epoch epoch)) disk h.state
      (subst (λ (k : Logged). IsBegun handle k) (sym (state-appended c.disk (log.Epoch epoch))) h.disk) h

  opening_begun : (config : Config) (count : ℕ) (found : LogDisk) (moment : ℕ) → IsGood IsFoundRows IsRowedLog rows_kept found → IsLogBegun handle found
      → (let d : MasterDoing = opening (started_master config count found moment) in IsStill found (core_of d))
  opening_begun config count found moment good h =
      let started : MasterState = started_master config count found moment in
      let d : MasterDoing = master_begins started [] in
      let epoch : ℕ = suc started.logged.epoch in
      let row : IsRowing found (core_of d) = opening_first IsFoundRows IsRowedLog rows_kept config count found moment good in
      let first : IsStill found (core_of d) = record { state = started_begun handle config count found moment h; disk = h; stops = h } in
      let less : IsStill found (core_of (writes_checkpoint d)) = checkpointed handle (IsLogBegun handle) (λ e g. g) found (core_of d) good.0 row first in
      logs_alone (λ e. IsStill found (core_of e)) d (log.Epoch epoch) first (epoch_begun found (core_of d) epoch refl first) less
      (epoch_begun found (core_of (writes_checkpoint d)) epoch ((rowing_keeps found).checkpoint (core_of d) (λ _. good.0) row).disk less)

  opens_begun : (old : MasterState) (moment : ℕ) (choice : Choice) (e : Ending) → IsIssued old → IsLogged IsFoundRows IsRowedLog rows_kept old → HasBegun handle old
      → (let started : MasterState = started_master old.config old.server_count (found_log old choice) moment in HasBegun handle (opens_as old started (opening started) choice e).state)
  opens_begun old moment choice Lost issued logged h = down_begun old old.disk old.under_way h.found
  opens_begun old moment choice (Stops made) issued logged h =
      let found : LogDisk = found_log old choice in
      let d : MasterDoing = opening (started_master old.config old.server_count found moment) in
      let g : IsStill found (core_of d) = opening_begun old.config old.server_count found moment (logged.found choice.decided) (h.found choice.decided) in
      down_begun old (log_changed_by_all found (take made d.changes)) (take 1 (drop made d.changes)) (found_stopped (IsLogBegun handle) found d.changes made g.stops)
  opens_begun old moment choice Goes issued logged h =
      let found : LogDisk = found_log old choice in
      let started : MasterState = started_master old.config old.server_count found moment in
      let d : MasterDoing = opening started in
      let n : IsRowing found (core_of d) = (opening_naming IsFoundRows IsRowedLog rows_kept old.config old.server_count found moment (logged.found choice.decided) (issued.found choice.decided)).0 in
      let g : IsStill found (core_of d) = opening_begun old.config old.server_count found moment (logged.found choice.decided) (h.found choice.decided) in
      on_cond (λ (t : Taken MasterState). HasBegun handle t.state) (has_opened started d && is_within_limits d.master) _ _
      (λ _. record { found = subst (λ (xs : List LogChange). AllFound (IsLogBegun handle) d.master.disk xs) (sym n.none) (found_same (IsLogBegun handle) d.master.disk g.disk); up = λ _. g.state })
      (λ _. down_begun old d.master.disk [] (found_same (IsLogBegun handle) d.master.disk g.disk))

  pub restart_begun : (m : MasterState) (moment : ℕ) (choice : Choice) → IsIssued m → IsLogged IsFoundRows IsRowedLog rows_kept m → HasBegun handle m → HasBegun handle (master_restart m moment choice).state
  restart_begun m moment choice issued logged h = opens_begun m moment choice choice.ending issued logged h
