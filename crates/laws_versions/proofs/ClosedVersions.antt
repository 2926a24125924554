-- A version that is closed is granted no more: the next number of its chunk is above it, and it is not attempted.
use Rattle.std.proofs.Common.{◌≡◌, ℕ, suc, ◌+◌, ◌≤◌, Bool, true, false, List, [], ◌∷◌, ◌++◌, take, drop, Option, Some, None, refl, sym, ap, subst, ◌∙◌, inl, inr, arith}
use Rattle.std.specs.Prelude.{◌==◌, ◌&&◌, nat_le, IsTrue}
use Rattle.std.specs.Ordering.{nat_cmp}
use Rattle.std.specs.FinMap as table
use Rattle.std.proofs.lemmas.Bool.{eqb-true, and_parts}
use Rattle.gfs_types.specs.declared.config.Config.{Config}
use Rattle.messages.specs.declared.event.Event.{Event}
use Rattle.messages.specs.declared.event.NodeInput.{NodeInput}
use Rattle.messages.specs.declared.message.Message.{Message}
use Rattle.log_records.specs.declared.record.Record.{Record}
use Rattle.log_records.specs.declared.record.Record.TheVariants as log
use Rattle.relaxed_file.proofs.NamesTree.{Tree}
use Rattle.protocol.specs.Choice.{Choice, Ending, Goes, Lost, Stops, in_order}
use Rattle.protocol.specs.Seen.{Taken, no_step}
use Rattle.protocol.specs.Sending.{order_number}
use Rattle.protocol.specs.Tables.{removed_all}
use Rattle.chunk_table.specs.ChunkTable.{ChunkRow}
use Rattle.protocol.specs.Logged.{Logged, Copy, LogDisk, LogChange, AppendRecord, WriteCheckpoint, log_changed, log_changed_by_all, after_record, checkpoint_of, all_copies_given_up}
use Rattle.protocol.specs.Master.{MasterState, MasterDoing, VersionAttempt, stopped_master, master_begins, writes_checkpoint}
use Rattle.protocol.specs.MasterStep.{master_goes, master_ends, master_bounded, master_step, is_within_limits, may_end, found_log, started_master, opening, has_opened, opens_as}
use Rattle.protocol.specs.ServerStep.{server_step, server_restart}
use Rattle.protocol.specs.World.{WorldState, stamped, after_events}
use Rattle.laws_base.specs.Laws.{is_grant, grants_of}
use Rattle.laws_base.proofs.Steps.{on_cond, none_some, same_some, tally, put_cases, gone_split, removed_cases, count-cons, count-append}
use Rattle.laws_base.proofs.Entries.{AllOf}
use Rattle.laws_base.proofs.Words.{no_order}
use Rattle.laws_base.proofs.ChunkRows.{rows_of}
use Rattle.laws_base.proofs.MasterMoves.{Core, core_of, NoneEnded, core_changed, core_appended, core_ended, core_granted, grant_record, IsDue, IsNoGrantRecord, logs_alone}
use Rattle.laws_base.proofs.ClientMoves.{HasNoOrder, quiet_orders}
use Rattle.laws_base.proofs.SentReached.{without_order, count-sent, server_quiet, server_restarts_quiet, sent_reached}
use Rattle.laws_base.proofs.OrderNumbers.{state_of, state-appended, AllStops, stops_push, AllFound, found_same, found_stopped}
use Rattle.laws_base.proofs.LoggedParts.{Parts, parts_of}
use Rattle.laws_base.proofs.GrantedIssued.{IsIssued}
use Rattle.laws_base.proofs.NamesReached.{IsGood, IsUpToLog, IsLogged, opening_first, opening_naming}
use Rattle.laws_base.proofs.RowsLogged.{IsFoundRows, IsRowedLog}
use Rattle.laws_base.proofs.RowsKept.{rows_kept}
use Rattle.laws_base.proofs.GrantsOnce.{row_below, no_order_grants, plain_grants}
use Rattle.laws_base.proofs.LeasesTimely.{IsOfTimes, times_kept}
use Rattle.laws_base.proofs.ScenesReached.{Scene, scene_of, IsKeptByScenes, lifted, scene_reached, IsKeptOn, goes_on}
use Rattle.laws_base.specs.Versions.{IsLeaseOver}
use Rattle.laws_versions.specs.ClosedVersions.{ClosedVersionsStayClosed}
use Rattle.laws_base.proofs.EndedLeases.{over_by_row}
use Rattle.laws_base.proofs.LeasesStayOver.{over_later}
use Rattle.laws_base.proofs.Awaited.{Attempts}
use Rattle.laws_base.proofs.MasterActs.{IsRowing, rowing_keeps, Waits, Acts}
use Rattle.laws_base.proofs.WaitsKept.{WaitsHere, any_input, IsOfWaits, waits_kept}
use Rattle.laws_base.proofs.ActsOfSteps.{goes_acts}
use Rattle.laws_base.proofs.IssuedNumbers.{IsPassed, IsLogPassed, passed_after, passed_grant, passed_ended, passed_same, passed_less, passed_checkpoint, started_passed}

module _ (handle version : ℕ) where
  -- a step so far: the version is not attempted, and none of its messages grants it
  record IsShut (start : LogDisk) (c : Core) (attempts : Attempts) : Type 0 where
    state : IsPassed handle version c.logged
    above : (a : VersionAttempt) → table.get attempts handle ≡ Some a → a.version ≡ version → ⊥
    none : grants_of handle version c.sent ≡ 0
    disk : IsLogPassed handle version c.disk
    stops : AllStops (IsLogPassed handle version) start c.changes

  -- messages

  one_more : (sent : List Message) (m : Message) → is_grant handle version m.body ≡ false → grants_of handle version sent ≡ 0 → grants_of handle version (sent ++ m ∷ []) ≡ 0
  one_more sent m plain none =
      let f : Message → Bool = λ x. is_grant handle version x.body in
      let whole = count-append f sent (m ∷ []) in
      let one = count-cons f m [] in
      let same = ap tally plain in
      omega (arith, whole, one, same, none)

  sends : (start : LogDisk) (c : Core) (attempts : Attempts) (m : Message) (count : ℕ) → is_grant handle version m.body ≡ false → IsShut start c attempts → IsShut start (record c { sent = c.sent ++ m ∷ []; order_count = count }) attempts
  sends start c attempts m count plain h = record { state = h.state; above = h.above; none = one_more c.sent m plain h.none; disk = h.disk; stops = h.stops }

  -- the disk and the state change together
  changed : (start : LogDisk) (c : Core) (attempts left : Attempts) (x : LogChange) (l : Logged) → log_changed_by_all start c.changes ≡ c.disk → IsPassed handle version l → IsLogPassed handle version (log_changed c.disk x)
      → ((a : VersionAttempt) → table.get left handle ≡ Some a → a.version ≡ version → ⊥) → IsShut start c attempts → IsShut start (record (core_changed c x) { logged = l }) left
  changed start c attempts left x l disk state written above h =
      record {
        state = state;
        above = above;
        none = h.none;
        disk = written;
        stops = stops_push (IsLogPassed handle version) start c.changes x h.stops (subst (λ (d : LogDisk). IsLogPassed handle version (log_changed d x)) (sym disk) written);
      }

  appended : (start : LogDisk) (c : Core) (attempts : Attempts) (r : Record) → IsDue (Unit {0}) c.logged r → IsNoGrantRecord r → IsRowing start c → IsShut start c attempts → IsShut start (core_appended c r) attempts
  appended start c attempts r due plain n h =
      changed start c attempts attempts (AppendRecord r) (after_record c.logged r) n.disk (passed_after handle version c.logged c.logged r due plain h.state h.state)
      (subst (λ (k : Logged). IsPassed handle version k) (sym (state-appended c.disk r)) (passed_after handle version c.logged (state_of c.disk) r due plain h.state h.disk)) h.above h

  checkpointed : (start : LogDisk) (c : Core) (attempts : Attempts) → Tree c.logged.names → IsRowing start c → IsShut start c attempts
      → IsShut start (record (core_changed c (WriteCheckpoint (checkpoint_of c.logged))) { logged = all_copies_given_up c.logged }) (removed_all attempts (table.keys c.logged.copies))
  checkpointed start c attempts tree n h =
      let both = passed_checkpoint handle version c.logged c.disk n.same tree n.tied h.state in
      changed start c attempts (removed_all attempts (table.keys c.logged.copies)) (WriteCheckpoint (checkpoint_of c.logged)) (all_copies_given_up c.logged) n.disk both.0 both.1
      (λ a is. h.above a (removed_cases attempts (table.keys c.logged.copies) handle a is)) h

  ended : (start : LogDisk) (c : Core) (attempts : Attempts) (chunk moment : ℕ) → IsShut start c attempts → IsShut start (core_ended c chunk moment) attempts
  ended start c attempts chunk moment h = record { state = passed_ended handle version c.logged chunk moment h.state; above = h.above; none = h.none; disk = h.disk; stops = h.stops }

  put_above : (attempts : Attempts) (chunk : ℕ) (a : VersionAttempt) → (chunk ≡ handle → a.version ≡ version → ⊥) → ((b : VersionAttempt) → table.get attempts handle ≡ Some b → b.version ≡ version → ⊥)
      → (b : VersionAttempt) → table.get (table.insert attempts chunk a) handle ≡ Some b → b.version ≡ version → ⊥
  put_above attempts chunk a new h b is number =
      elim (put_cases attempts chunk a handle b is) [
        | inl same ↦ new (sym same.0) (ap (λ (x : VersionAttempt). x.version) same.1 ∙ number)
        | inr before ↦ h b before number
      ]

  with_above : (start : LogDisk) (c : Core) (attempts left : Attempts) → ((b : VersionAttempt) → table.get left handle ≡ Some b → b.version ≡ version → ⊥) → IsShut start c attempts → IsShut start c left
  with_above start c attempts left above h = record { state = h.state; above = above; none = h.none; disk = h.disk; stops = h.stops }

  -- a grant is of an attempt, so of no such version
  granted : (start : LogDisk) (c : Core) (attempts : Attempts) (chunk : ℕ) (a : VersionAttempt) (until primary : ℕ) (members : List ℕ) → table.get attempts chunk ≡ Some a → IsDue (Unit {0}) c.logged (grant_record chunk a.version primary members)
      → IsRowing start c → IsShut start c attempts → IsShut start (core_granted c chunk a.version until primary members) (table.remove attempts chunk)
  granted start c attempts chunk a until primary members at due n h =
      let r : Record = grant_record chunk a.version primary members in
      let one : IsShut start (core_appended c r) (table.remove attempts chunk) =
      changed start c attempts (table.remove attempts chunk) (AppendRecord r) (after_record c.logged r) n.disk (passed_grant handle version c.logged c.logged chunk a.version primary members due h.state)
      (subst (λ (k : Logged). IsPassed handle version k) (sym (state-appended c.disk r)) (passed_grant handle version c.logged (state_of c.disk) chunk a.version primary members due h.disk))
      (λ b is. h.above b (gone_split attempts chunk handle b is).1) h in
      sends start (core_ended (core_appended c r) chunk until) (table.remove attempts chunk) _ _ (other ((chunk == handle) && (a.version == version)) refl) (ended start (core_appended c r) (table.remove attempts chunk) chunk until one)
    where
      other : (b : Bool) → (chunk == handle) && (a.version == version) ≡ b → b ≡ false
      other false e = refl
      other true e =
          let parts = and_parts (chunk == handle) (a.version == version) e in
          absurd (h.above a (ap (λ (k : ℕ). table.get attempts k) (sym (eqb-true chunk handle parts.0)) ∙ at) (eqb-true a.version version parts.1))

  abbrev Shut : LogDisk → Core → Attempts → Waits → Type 0
  Shut start c attempts ss = IsShut start c attempts

  shut_acts : (start : LogDisk) → Acts start NoneEnded (IsRowing start) (Shut start)
  shut_acts start =
      record {
        tells = λ c attempts ss receiver b quiet h. sends start c attempts _ c.order_count (no_order_grants handle version b (no_order b quiet)) h;
        orders = λ c attempts ss server b is plain none h. sends start c attempts _ (suc c.order_count) (plain_grants handle version (b _) (plain _)) h;
        gives = λ c attempts ss server chunk a b at has plain given h. sends start c attempts _ (suc c.order_count) (plain_grants handle version (b _) (plain _)) h;
        revokes = λ c attempts ss chunk row is h. sends start c attempts _ (suc c.order_count) refl h;
        appends = λ c attempts ss r due plain beside n after h. appended start c attempts r due plain n h;
        checkpoint = λ c attempts ss tree n after h. checkpointed start c attempts tree n h;
        less = λ c attempts ss handles copied n h.
            record {
              state = passed_less handle version c.logged handles h.state;
              above = λ a is. h.above a (removed_cases attempts handles handle a is);
              none = h.none;
              disk = h.disk;
              stops = h.stops;
            };
        fewer = λ c attempts left ss from h. with_above start c attempts left (λ a is. h.above a (from handle a is)) h;
        waits = λ c attempts ss more h. h;
        issues = λ c attempts ss chunk row a is next alone n before h.
            with_above start _ attempts (table.insert attempts chunk a)
            (put_above attempts chunk a (λ same number. let low = before.state.1 row (ap (λ (n : ℕ). table.get (rows_of c.logged) n) (sym same) ∙ is) in omega (arith, low, next, number)) h.above) h;
        copies = λ c attempts ss file index source copy a next n before h.
            with_above start _ attempts (table.insert attempts copy a) (put_above attempts copy a (λ same number. let low = before.state.0 in omega (arith, low, same, next)) h.above) h;
        records = λ c attempts ss chunk a b at same servers h.
            with_above start c attempts (table.insert attempts chunk b) (put_above attempts chunk b (λ key number. h.above a (ap (λ (n : ℕ). table.get attempts n) (sym key) ∙ at) (sym same ∙ number)) h.above) h;
        grants = λ c attempts ss chunk a until primary members at all due n after h. granted start c attempts chunk a until primary members at due n h;
        ends = λ c attempts ss chunk row is word n h. ended start c attempts chunk 0 h;
        extends = λ c attempts ss chunk until row is lasts n h. sends start (core_ended c chunk until) attempts _ c.order_count refl (ended start c attempts chunk until h);
      }

  -- between steps

  pub record AreShut (count : ℕ) (sent : List Message) (m : MasterState) : Type 0 where
    pub few : grants_of handle version sent ≤ count
    pub found : AllFound (IsLogPassed handle version) m.disk m.under_way
    pub up : IsTrue m.up → IsPassed handle version m.logged × ((a : VersionAttempt) → table.get m.attempts handle ≡ Some a → a.version ≡ version → ⊥)

  still : (sent : List Message) (k : ℕ) (order : List ℕ) (ms : List Message) → grants_of handle version ms ≡ 0 → grants_of handle version (sent ++ stamped k (in_order order ms)) ≡ grants_of handle version sent
  still sent k order ms none = let whole = count-sent (λ b. is_grant handle version b) k sent order ms in omega (arith, whole, none)

  no_grants : (ms : List Message) → AllOf (λ m. order_number m.body ≡ None) ms → grants_of handle version ms ≡ 0
  no_grants [] all = refl
  no_grants (m ∷ ms) all =
      let whole = count-cons (λ (x : Message). is_grant handle version x.body) m ms in
      let one = ap tally (no_order_grants handle version m.body all.0) in
      let rest = no_grants ms all.1 in
      omega (arith, whole, one, rest)

  quiet_shut : (count : ℕ) (sent ms : List Message) (k : ℕ) (m : MasterState) → HasNoOrder ms → AreShut count sent m → AreShut count (sent ++ stamped k ms) m
  quiet_shut count sent ms k m quiet h =
      let same = still sent k [] ms (no_grants ms (without_order ms quiet)) in
      let low = h.few in
      record { few = omega (arith, same, low); found = h.found; up = h.up }

  down_shut : (count : ℕ) (sent : List Message) (k : ℕ) (m : MasterState) (disk : LogDisk) (under_way : List LogChange) → AreShut count sent m → AllFound (IsLogPassed handle version) disk under_way → AreShut count (sent ++ stamped k []) (stopped_master m disk under_way)
  down_shut count sent k m disk under_way h found =
      let same = still sent k [] [] refl in
      let low = h.few in
      record { few = omega (arith, same, low); found = found; up = λ up. absurd (let both : false ≡ true = up in cc) }

  running : (count : ℕ) (sent : List Message) (k : ℕ) (order : List ℕ) (start : LogDisk) (d : MasterDoing) → grants_of handle version sent ≤ count → IsRowing start (core_of d) → IsShut start (core_of d) d.master.attempts
      → AreShut count (sent ++ stamped k (in_order order d.sent)) d.master
  running count sent k order start d few n g =
      let same = still sent k order d.sent g.none in
      record {
        few = omega (arith, same, few);
        found = subst (λ (xs : List LogChange). AllFound (IsLogPassed handle version) d.master.disk xs) (sym n.none) (found_same (IsLogPassed handle version) d.master.disk g.disk);
        up = λ _. (g.state, g.above);
      }

  ends_shut : (count : ℕ) (sent : List Message) (k : ℕ) (m : MasterState) (d : MasterDoing) (choice : Choice) (e : Ending) → AreShut count sent m → IsRowing m.disk (core_of d) → IsShut m.disk (core_of d) d.master.attempts
      → AreShut count (sent ++ stamped k (master_ends m d choice e).out.sent) (master_ends m d choice e).state
  ends_shut count sent k m d choice Goes h n g = running count sent k choice.order m.disk d h.few n g
  ends_shut count sent k m d choice Lost h n g = down_shut count sent k m m.disk [] h (found_same (IsLogPassed handle version) m.disk (h.found []))
  ends_shut count sent k m d choice (Stops made) h n g =
      down_shut count sent k m (log_changed_by_all m.disk (take made d.changes)) (take 1 (drop made d.changes)) h (found_stopped (IsLogPassed handle version) m.disk d.changes made g.stops)

  step_shut : (count : ℕ) (sent : List Message) (k : ℕ) (m : MasterState) (moment : ℕ) (i : NodeInput) (choice : Choice) → IsLogged IsFoundRows IsRowedLog rows_kept m → WaitsHere m → AreShut count sent m
      → AreShut count (sent ++ stamped k (master_step m moment i choice).out.sent) (master_step m moment i choice).state
  step_shut count sent k m moment i choice logged waits h =
      let d : MasterDoing = master_goes m moment i choice.refused in
      let good : Taken MasterState → Type 0 = λ t. AreShut count (sent ++ stamped k t.out.sent) t.state in
      let low = h.few in
      let same : AreShut count (sent ++ stamped k []) m = let none = still sent k [] [] refl in record { few = omega (arith, none, low); found = h.found; up = h.up } in
      on_cond good m.up (master_bounded m i d choice) (no_step m)
      (λ up. on_cond good (may_end m i d choice.ending) (master_ends m d choice choice.ending) (no_step m)
      (λ _.
      let u : IsUpToLog IsFoundRows IsRowedLog rows_kept m = logged.up up in
      let end =
      goes_acts NoneEnded (IsRowing m.disk) (Shut m.disk) m moment i choice.refused (rowing_keeps m.disk) (λ c n. n) (shut_acts m.disk) (any_input i) logged up waits
      (record { none = u.idle; disk = refl; same = u.same; tied = u.tied; stops = logged.found [] })
      (record { state = (h.up up).0; above = (h.up up).1; none = refl; disk = h.found []; stops = h.found [] }) in
      ends_shut count sent k m d choice choice.ending h end.0 end.2)
      (λ _. same))
      (λ _. same)

  -- a master that opens

  epoch_begun : (start : LogDisk) (c : Core) (attempts : Attempts) (epoch : ℕ) → log_changed_by_all start c.changes ≡ c.disk → IsShut start c attempts → IsShut start (core_appended c (log.Epoch epoch)) attempts
  epoch_begun start c attempts epoch disk h =
      changed start c attempts attempts (AppendRecord (log.Epoch epoch)) (after_record c.logged (log.Epoch epoch)) disk h.state
      (subst (λ (k : Logged). IsPassed handle version k) (sym (state-appended c.disk (log.Epoch epoch))) h.disk) h.above h

  opening_shut : (config : Config) (count : ℕ) (found : LogDisk) (moment : ℕ) → IsGood IsFoundRows IsRowedLog rows_kept found → IsLogPassed handle version found
      → (let d : MasterDoing = opening (started_master config count found moment) in IsShut found (core_of d) d.master.attempts)
  opening_shut config count found moment good h =
      let started : MasterState = started_master config count found moment in
      let d : MasterDoing = master_begins started [] in
      let epoch : ℕ = suc started.logged.epoch in
      let row : IsRowing found (core_of d) = opening_first IsFoundRows IsRowedLog rows_kept config count found moment good in
      let first : IsShut found (core_of d) d.master.attempts =
      record { state = started_passed handle version config count found moment h; above = λ a is. none_some a (sym (table.get-empty nat_cmp handle) ∙ is); none = refl; disk = h; stops = h } in
      let less : IsShut found (core_of (writes_checkpoint d)) (writes_checkpoint d).master.attempts = checkpointed found (core_of d) d.master.attempts good.0 row first in
      logs_alone (λ e. IsShut found (core_of e) e.master.attempts) d (log.Epoch epoch) first (epoch_begun found (core_of d) d.master.attempts epoch refl first) less
      (epoch_begun found (core_of (writes_checkpoint d)) (writes_checkpoint d).master.attempts epoch ((rowing_keeps found).checkpoint (core_of d) (λ _. good.0) row).disk less)

  opens_shut : (count : ℕ) (sent : List Message) (k : ℕ) (old : MasterState) (moment : ℕ) (choice : Choice) (e : Ending) → IsIssued old → IsLogged IsFoundRows IsRowedLog rows_kept old → AreShut count sent old
      → (let started : MasterState = started_master old.config old.server_count (found_log old choice) moment in
      AreShut count (sent ++ stamped k (opens_as old started (opening started) choice e).out.sent) (opens_as old started (opening started) choice e).state)
  opens_shut count sent k old moment choice Lost issued logged h = down_shut count sent k old old.disk old.under_way h h.found
  opens_shut count sent k old moment choice (Stops made) issued logged h =
      let found : LogDisk = found_log old choice in
      let d : MasterDoing = opening (started_master old.config old.server_count found moment) in
      let g : IsShut found (core_of d) d.master.attempts = opening_shut old.config old.server_count found moment (logged.found choice.decided) (h.found choice.decided) in
      down_shut count sent k old (log_changed_by_all found (take made d.changes)) (take 1 (drop made d.changes)) h (found_stopped (IsLogPassed handle version) found d.changes made g.stops)
  opens_shut count sent k old moment choice Goes issued logged h =
      let found : LogDisk = found_log old choice in
      let started : MasterState = started_master old.config old.server_count found moment in
      let d : MasterDoing = opening started in
      let n : IsRowing found (core_of d) = (opening_naming IsFoundRows IsRowedLog rows_kept old.config old.server_count found moment (logged.found choice.decided) (issued.found choice.decided)).0 in
      let g : IsShut found (core_of d) d.master.attempts = opening_shut old.config old.server_count found moment (logged.found choice.decided) (h.found choice.decided) in
      let none = still sent k [] [] refl in
      let low = h.few in
      on_cond (λ (t : Taken MasterState). AreShut count (sent ++ stamped k t.out.sent) t.state) (has_opened started d && is_within_limits d.master) _ _
      (λ _. record {
        few = omega (arith, none, low);
        found = subst (λ (xs : List LogChange). AllFound (IsLogPassed handle version) d.master.disk xs) (sym n.none) (found_same (IsLogPassed handle version) d.master.disk g.disk);
        up = λ _. (g.state, g.above);
      })
      (λ _. down_shut count sent k old d.master.disk [] h (found_same (IsLogPassed handle version) d.master.disk g.disk))

  -- worlds

  pub record StaysShut (count : ℕ) (x : Scene) : Type 0 where
    pub base : IsOfWaits x.sent x.master
    pub shut : AreShut count x.sent x.master

  pub stays_shut : (count : ℕ) → IsKeptOn (StaysShut count)
  stays_shut count =
      let base : IsKeptByScenes (λ x. IsOfWaits x.sent x.master) = lifted IsOfWaits waits_kept in
      record {
        passes = λ x moment h. record { base = h.base; shut = h.shut };
        says = λ x k ms quiet h. record { base = base.says x k ms quiet h.base; shut = quiet_shut count x.sent ms k x.master (quiet_orders ms quiet) h.shut };
        masters = λ x k moment i choice now is up h. record { base = base.masters x k moment i choice now is up h.base; shut = step_shut count x.sent k x.master moment i choice h.base.base.logged h.base.waits h.shut };
        opens = λ x k moment choice now h. record { base = base.opens x k moment choice now h.base; shut = opens_shut count x.sent k x.master moment choice choice.ending h.base.base.issued h.base.base.logged h.shut };
        serves = λ x k index moment s i choice now at is up h.
            record { base = base.serves x k index moment s i choice now at is up h.base; shut = quiet_shut count x.sent (server_step s moment i choice).out.sent k x.master (server_quiet s moment i choice) h.shut };
        restarts = λ x k index moment s choice now at h.
            record { base = base.restarts x k index moment s choice now at h.base; shut = quiet_shut count x.sent (server_restart s moment choice).out.sent k x.master (server_restarts_quiet s moment choice choice.ending) h.shut };
        rots = λ x index c s e is at up h. record { base = h.base; shut = h.shut };
      }

  -- the log of a master that is up says the same of the chunk
  log_passed : (l k : Logged) → parts_of l ≡ parts_of k → IsRowedLog l k → (row : ChunkRow) → table.get (rows_of l) handle ≡ Some row → version ≤ row.issued → IsPassed handle version l × IsPassed handle version k
  log_passed l k parts tied row there issued =
      let state : IsPassed handle version l = (row_below l k parts tied handle row there, λ other is. let same : other.issued ≡ row.issued = ap (λ (r : ChunkRow). r.issued) (same_some other row (sym is ∙ there)) in omega (arith, issued, same)) in
      (state, passed_same handle version l k (tied.same handle (by_copies (table.get l.copies handle) refl (table.get k.copies handle) refl)) (ap (λ (p : Parts). p.next_handle) parts) state)
    where
      by_copies : (o : Option Copy) → table.get l.copies handle ≡ o → (p : Option Copy) → table.get k.copies handle ≡ p → table.get l.copies handle ≡ table.get k.copies handle
      by_copies (Some c) is p also = is ∙ sym (tied.base.base.among handle c is)
      by_copies None is None also = is ∙ sym also
      by_copies None is (Some c) also = none_some row (sym (tied.base.base.alone handle c also is) ∙ there)

-- clocks that are kept were kept before
pub clocks_before : (w : WorldState) (steps : List (Event × Choice)) → IsTrue (after_events w steps).observer.are_clocks_kept → IsTrue w.observer.are_clocks_kept
clocks_before w steps clocks = goes_on (λ x. IsTrue x.are_clocks_kept → IsTrue w.observer.are_clocks_kept)
    (record {
      passes = λ x moment h both. h (and_parts x.are_clocks_kept (nat_le x.greatest (moment + x.config.skew_ms)) both).0;
      says = λ x k ms quiet h. h;
      masters = λ x k moment i choice now is up h. h;
      opens = λ x k moment choice now h. h;
      serves = λ x k index moment s i choice now at is up h. h;
      restarts = λ x k index moment s choice now at h. h;
      rots = λ x index c s e is at up h. h;
    }) w steps (λ h. h) clocks

pub closed_versions_stay_closed : ClosedVersionsStayClosed
closed_versions_stay_closed config servers clients w r up handle row there version closed steps clocks =
    let h : IsOfTimes (scene_of w) = scene_reached IsOfTimes times_kept config servers clients w r in
    let over : IsLeaseOver w handle version = over_by_row w h handle version (clocks_before w steps clocks) up row there closed.ended in
    let count : ℕ = grants_of handle version w.sent in
    let u : IsUpToLog IsFoundRows IsRowedLog rows_kept w.master = h.base.sent.logged.up up in
    let passed = log_passed handle version w.master.logged (state_of w.master.disk) u.same u.tied row there closed.issued in
    let start : StaysShut handle version count (scene_of w) =
    record {
      base = sent_reached IsOfWaits waits_kept config servers clients w r;
      shut = record {
        few = omega arith;
        found = subst (λ (xs : List LogChange). AllFound (IsLogPassed handle version) w.master.disk xs) (sym u.idle) (found_same (IsLogPassed handle version) w.master.disk passed.1);
        up = λ _. (passed.0, closed.given_up);
      };
    } in
    over_later config servers clients w r handle version over steps clocks (goes_on (StaysShut handle version count) (stays_shut handle version count) w steps start).shut.few
