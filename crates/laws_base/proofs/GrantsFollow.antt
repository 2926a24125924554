-- A number that the master has passed at a chunk is passed for good: what it grants of the chunk from then on follows that number.
use Rattle.std.proofs.Common.{◌≡◌, ℕ, suc, ◌<◌, true, false, List, [], ◌∷◌, ◌++◌, take, drop, Some, None, refl, sym, ap, subst, ◌∙◌, inl, inr, arith}
use Rattle.std.specs.Prelude.{◌&&◌, IsTrue}
use Rattle.std.specs.Ordering.{nat_cmp}
use Rattle.std.specs.FinMap as table
use Rattle.gfs_types.specs.declared.config.Config.{Config}
use Rattle.gfs_types.specs.declared.ids.Handle.{Handle}
use Rattle.gfs_types.specs.declared.ids.Version.{Version}
use Rattle.gfs_types.specs.declared.ids.Moment.{Moment}
use Rattle.gfs_types.specs.declared.ids.OrderNo.{OrderNo}
use Rattle.messages.specs.declared.event.NodeInput.{NodeInput}
use Rattle.messages.specs.declared.message.Body.{Body}
use Rattle.messages.specs.declared.message.Message.{Message}
use Rattle.log_records.specs.declared.record.Record.{Record}
use Rattle.log_records.specs.declared.record.Record.TheVariants as log
use Rattle.relaxed_file.proofs.NamesTree.{Tree}
use Rattle.protocol.specs.Choice.{Choice, Ending, Goes, Lost, Stops}
use Rattle.protocol.specs.Seen.{Taken, no_step}
use Rattle.protocol.specs.Sending.{handle_of, version_of, order_number}
use Rattle.protocol.specs.Tables.{removed_all}
use Rattle.chunk_table.specs.ChunkTable.{ChunkRow}
use Rattle.protocol.specs.Logged.{Logged, LogDisk, LogChange, AppendRecord, WriteCheckpoint, log_changed, log_changed_by_all, after_record, checkpoint_of, all_copies_given_up}
use Rattle.protocol.specs.Master.{MasterState, MasterDoing, VersionAttempt, stopped_master, master_begins, writes_checkpoint}
use Rattle.protocol.specs.MasterStep.{master_goes, master_ends, master_bounded, master_step, is_within_limits, may_end, found_log, started_master, opening, has_opened, opens_as, master_restart}
use Rattle.laws_base.proofs.Steps.{on_cond, none_some, put_cases, gone_split, removed_cases}
use Rattle.laws_base.proofs.Entries.{AllOf, all_joined}
use Rattle.laws_base.proofs.Words.{no_order}
use Rattle.laws_base.proofs.LeaseOrders.{OfGrant, of_nothing, unordered_nothing}
use Rattle.laws_base.proofs.ChunkRows.{rows_of}
use Rattle.laws_base.proofs.VersionsAhead.{changed_cases}
use Rattle.laws_base.proofs.RowsFit.{IsFitRecord, fit_after}
use Rattle.laws_base.proofs.MembersRecorded.{all_in_order}
use Rattle.laws_base.proofs.MasterMoves.{Core, core_of, NoneEnded, core_changed, core_appended, core_ended, core_granted, grant_record, IsDue, IsNoGrantRecord, IsPlainOrder, plain_nothing, logs_alone}
use Rattle.laws_base.proofs.OrderNumbers.{state_of, state-appended, AllStops, stops_push, AllFound, found_same, found_stopped}
use Rattle.laws_base.proofs.GrantedIssued.{IsIssued}
use Rattle.laws_base.proofs.NamesReached.{IsGood, IsUpToLog, IsLogged, opening_first, opening_naming}
use Rattle.laws_base.proofs.RowsLogged.{IsFoundRows, IsRowedLog}
use Rattle.laws_base.proofs.RowsKept.{rows_kept}
use Rattle.laws_base.proofs.Awaited.{Attempts}
use Rattle.laws_base.proofs.MasterActs.{IsRowing, rowing_keeps, Waits, Acts}
use Rattle.laws_base.proofs.WaitsKept.{WaitsHere, any_input}
use Rattle.laws_base.proofs.ActsOfSteps.{goes_acts}
use Rattle.laws_base.proofs.IssuedNumbers.{IsPassed, IsLogPassed, passed_after, passed_grant, passed_ended, passed_less, passed_checkpoint, started_passed}

-- a Grant of this chunk is of a number above that one
abbrev pub IsVersionAbove : ℕ → ℕ → OrderNo → Handle → Version → Moment → List ℕ → Type 0
IsVersionAbove handle version order h v end_moment members = h.0 ≡ handle → version < v.0

abbrev pub GrantsAbove : ℕ → ℕ → Body → Type 0
GrantsAbove handle version b = OfGrant (IsVersionAbove handle version) b

-- while the chunk is there, its attempt is of a number above that one
abbrev pub IsTriedAbove : ℕ → ℕ → Logged → Attempts → Type 0
IsTriedAbove handle version l attempts = (row : ChunkRow) → table.get (rows_of l) handle ≡ Some row → (a : VersionAttempt) → table.get attempts handle ≡ Some a → version < a.version

-- A master between its steps has passed that number of the chunk: in each log that it may have, and while it is up.
pub record HasPassed (handle version : ℕ) (m : MasterState) : Type 0 where
  pub found : AllFound (IsLogPassed handle version) m.disk m.under_way
  pub up : IsTrue m.up → IsPassed handle version m.logged × IsTriedAbove handle version m.logged m.attempts

-- the row of this chunk was there
abbrev WasThere : ℕ → Logged → ℕ → ℕ → ℕ → Type 0
WasThere handle l q granted primary = q ≡ handle → (old : ChunkRow) × (table.get (rows_of l) handle ≡ Some old)

fresh : (handle : ℕ) (l : Logged) (r : Record) → IsDue (Unit {0}) l r → handle < l.next_handle → IsFitRecord (WasThere handle l) r
fresh handle l (log.AddChunk file new) due used = λ same. absurd (let next = due.0 in omega (arith, used, same, next))
fresh handle l (log.CopyStart file index source copy copy_version) due used = λ same. absurd (let next = due.0 in omega (arith, used, same, next))
fresh handle l (log.Grant chunk number primary members) due used = λ same. (due.0, ap (λ (n : ℕ). table.get (rows_of l) n) (sym same) ∙ due.1)
fresh handle l other due used = tt

-- the row of a chunk was there before a record, if its handle was used
was_there : (handle : ℕ) (l : Logged) (r : Record) → IsDue (Unit {0}) l r → handle < l.next_handle → (row : ChunkRow) → table.get (rows_of (after_record l r)) handle ≡ Some row → (old : ChunkRow) × (table.get (rows_of l) handle ≡ Some old)
was_there handle l r due used row is = fit_after (WasThere handle l) l l r due (fresh handle l r due used) (λ q old at same. (old, ap (λ (n : ℕ). table.get (rows_of l) n) (sym same) ∙ at)) handle row is refl

module _ (handle version : ℕ) (Left : LogDisk → Type 0) (left : (d : LogDisk) → IsLogPassed handle version d → Left d) where
  -- a step so far
  pub record IsBeyond (start : LogDisk) (c : Core) (attempts : Attempts) : Type 0 where
    pub state : IsPassed handle version c.logged
    pub above : IsTriedAbove handle version c.logged attempts
    pub sent : AllOf (λ m. GrantsAbove handle version m.body) c.sent
    pub disk : IsLogPassed handle version c.disk
    pub stops : AllStops Left start c.changes

  -- messages

  no_order_grants : (b : Body) → order_number b ≡ None → GrantsAbove handle version b
  no_order_grants b none = of_nothing (IsVersionAbove handle version) b (unordered_nothing b none)

  plain_grants : (b : Body) → IsPlainOrder b → GrantsAbove handle version b
  plain_grants b plain = of_nothing (IsVersionAbove handle version) b (plain_nothing b plain)

  pub sends : (start : LogDisk) (c : Core) (attempts : Attempts) (m : Message) (count : ℕ) → GrantsAbove handle version m.body → IsBeyond start c attempts → IsBeyond start (record c { sent = c.sent ++ m ∷ []; order_count = count }) attempts
  sends start c attempts m count fits h =
      record { state = h.state; above = h.above; sent = all_joined (λ (x : Message). GrantsAbove handle version x.body) c.sent (m ∷ []) h.sent (fits, tt); disk = h.disk; stops = h.stops }

  -- the disk and the state change together
  changed : (start : LogDisk) (c : Core) (attempts : Attempts) (tried : Attempts) (x : LogChange) (l : Logged) → log_changed_by_all start c.changes ≡ c.disk → IsPassed handle version l → IsLogPassed handle version (log_changed c.disk x)
      → IsTriedAbove handle version l tried → IsBeyond start c attempts → IsBeyond start (record (core_changed c x) { logged = l }) tried
  changed start c attempts tried x l disk state written above h =
      record {
        state = state;
        above = above;
        sent = h.sent;
        disk = written;
        stops = stops_push Left start c.changes x h.stops (left (log_changed (log_changed_by_all start c.changes) x) (subst (λ (d : LogDisk). IsLogPassed handle version (log_changed d x)) (sym disk) written));
      }

  appended : (start : LogDisk) (c : Core) (attempts : Attempts) (r : Record) → IsDue (Unit {0}) c.logged r → IsNoGrantRecord r → IsRowing start c → IsBeyond start c attempts → IsBeyond start (core_appended c r) attempts
  appended start c attempts r due plain n h =
      changed start c attempts attempts (AppendRecord r) (after_record c.logged r) n.disk (passed_after handle version c.logged c.logged r due plain h.state h.state)
      (subst (λ (k : Logged). IsPassed handle version k) (sym (state-appended c.disk r)) (passed_after handle version c.logged (state_of c.disk) r due plain h.state h.disk))
      (λ row is. let was = was_there handle c.logged r due h.state.0 row is in h.above was.0 was.1) h

  checkpointed : (start : LogDisk) (c : Core) (attempts : Attempts) → Tree c.logged.names → IsRowing start c → IsBeyond start c attempts
      → IsBeyond start (record (core_changed c (WriteCheckpoint (checkpoint_of c.logged))) { logged = all_copies_given_up c.logged }) (removed_all attempts (table.keys c.logged.copies))
  checkpointed start c attempts tree n h =
      let both = passed_checkpoint handle version c.logged c.disk n.same tree n.tied h.state in
      changed start c attempts (removed_all attempts (table.keys c.logged.copies)) (WriteCheckpoint (checkpoint_of c.logged)) (all_copies_given_up c.logged) n.disk both.0 both.1
      (λ row is a at. h.above row (removed_cases (rows_of c.logged) (table.keys c.logged.copies) handle row is) a (removed_cases attempts (table.keys c.logged.copies) handle a at)) h

  ended : (start : LogDisk) (c : Core) (attempts : Attempts) (chunk moment : ℕ) → IsBeyond start c attempts → IsBeyond start (core_ended c chunk moment) attempts
  ended start c attempts chunk moment h =
      record {
        state = passed_ended handle version c.logged chunk moment h.state;
        above = λ row is. elim (changed_cases (rows_of c.logged) chunk (λ r. record r { lease_end = moment }) (table.get (rows_of c.logged) chunk) handle row refl is) [
          | inl now ↦ h.above now.0 (ap (λ (n : ℕ). table.get (rows_of c.logged) n) now.1 ∙ now.2)
          | inr before ↦ h.above row before.1
        ];
        sent = h.sent;
        disk = h.disk;
        stops = h.stops;
      }

  put_above : (l : Logged) (attempts : Attempts) (chunk : ℕ) (a : VersionAttempt) → (chunk ≡ handle → version < a.version) → IsTriedAbove handle version l attempts → IsTriedAbove handle version l (table.insert attempts chunk a)
  put_above l attempts chunk a new h row there b is =
      elim (put_cases attempts chunk a handle b is) [
        | inl same ↦ subst (λ (x : VersionAttempt). version < x.version) same.1 (new (sym same.0))
        | inr before ↦ h row there b before
      ]

  with_above : (start : LogDisk) (c : Core) (attempts tried : Attempts) → IsTriedAbove handle version c.logged tried → IsBeyond start c attempts → IsBeyond start c tried
  with_above start c attempts tried above h = record { state = h.state; above = above; sent = h.sent; disk = h.disk; stops = h.stops }

  -- a grant is of an attempt, and its chunk is there
  granted : (start : LogDisk) (c : Core) (attempts : Attempts) (chunk : ℕ) (a : VersionAttempt) (until primary : ℕ) (members : List ℕ) → table.get attempts chunk ≡ Some a → IsDue (Unit {0}) c.logged (grant_record chunk a.version primary members)
      → IsRowing start c → IsBeyond start c attempts → IsBeyond start (core_granted c chunk a.version until primary members) (table.remove attempts chunk)
  granted start c attempts chunk a until primary members at due n h =
      let r : Record = grant_record chunk a.version primary members in
      let one : IsBeyond start (core_appended c r) (table.remove attempts chunk) =
      changed start c attempts (table.remove attempts chunk) (AppendRecord r) (after_record c.logged r) n.disk (passed_grant handle version c.logged c.logged chunk a.version primary members due h.state)
      (subst (λ (k : Logged). IsPassed handle version k) (sym (state-appended c.disk r)) (passed_grant handle version c.logged (state_of c.disk) chunk a.version primary members due h.disk))
      (λ row is b there. let was = was_there handle c.logged r due h.state.0 row is in h.above was.0 was.1 b (gone_split attempts chunk handle b there).1) h in
      sends start (core_ended (core_appended c r) chunk until) (table.remove attempts chunk) _ _
      (λ same. h.above due.0 (ap (λ (n : ℕ). table.get (rows_of c.logged) n) (sym same) ∙ due.1) a (ap (λ (n : ℕ). table.get attempts n) (sym same) ∙ at))
      (ended start (core_appended c r) (table.remove attempts chunk) chunk until one)

  abbrev pub Beyond : LogDisk → Core → Attempts → Waits → Type 0
  Beyond start c attempts ss = IsBeyond start c attempts

  pub beyond_acts : (start : LogDisk) → Acts start NoneEnded (IsRowing start) (Beyond start)
  beyond_acts start =
      record {
        tells = λ c attempts ss receiver b quiet h. sends start c attempts _ c.order_count (no_order_grants b (no_order b quiet)) h;
        orders = λ c attempts ss server b is plain none h. sends start c attempts _ (suc c.order_count) (plain_grants (b _) (plain _)) h;
        gives = λ c attempts ss server chunk a b at has plain given h. sends start c attempts _ (suc c.order_count) (plain_grants (b _) (plain _)) h;
        revokes = λ c attempts ss chunk row is h. sends start c attempts _ (suc c.order_count) tt h;
        appends = λ c attempts ss r due plain beside n after h. appended start c attempts r due plain n h;
        checkpoint = λ c attempts ss tree n after h. checkpointed start c attempts tree n h;
        less = λ c attempts ss handles copied n h.
            record {
              state = passed_less handle version c.logged handles h.state;
              above = λ row is a at. h.above row (removed_cases (rows_of c.logged) handles handle row is) a (removed_cases attempts handles handle a at);
              sent = h.sent;
              disk = h.disk;
              stops = h.stops;
            };
        fewer = λ c attempts tried ss from h. with_above start c attempts tried (λ row is a at. h.above row is a (from handle a at)) h;
        waits = λ c attempts ss more h. h;
        issues = λ c attempts ss chunk row a is next alone n before h.
            with_above start _ attempts (table.insert attempts chunk a)
            (put_above (after_record c.logged (log.Issue (handle_of chunk) (version_of a.version))) attempts chunk a (λ same. let low = before.state.1 row (ap (λ (n : ℕ). table.get (rows_of c.logged) n) (sym same) ∙ is) in omega (arith, low, next)) h.above) h;
        copies = λ c attempts ss file index source copy a next n before h.
            with_above start _ attempts (table.insert attempts copy a) (put_above (after_record c.logged (log.CopyStart file index source (handle_of copy) (version_of a.version))) attempts copy a (λ same. absurd (let low = before.state.0 in omega (arith, low, same, next))) h.above) h;
        records = λ c attempts ss chunk a b at same servers h.
            with_above start c attempts (table.insert attempts chunk b)
            (λ row there. put_above c.logged attempts chunk b (λ key. let low = h.above row there a (ap (λ (n : ℕ). table.get attempts n) (sym key) ∙ at) in omega (arith, low, same)) h.above row there) h;
        grants = λ c attempts ss chunk a until primary members at all due n after h. granted start c attempts chunk a until primary members at due n h;
        ends = λ c attempts ss chunk row is word n h. ended start c attempts chunk 0 h;
        extends = λ c attempts ss chunk until row is lasts n h. sends start (core_ended c chunk until) attempts _ c.order_count tt (ended start c attempts chunk until h);
      }

-- between steps

module _ (handle version : ℕ) where
  abbrev IsStill : LogDisk → Core → Attempts → Type 0
  IsStill start c attempts = IsBeyond handle version (IsLogPassed handle version) (λ d h. h) start c attempts

  down_passed : (m : MasterState) (disk : LogDisk) (under_way : List LogChange) → AllFound (IsLogPassed handle version) disk under_way → HasPassed handle version (stopped_master m disk under_way)
  down_passed m disk under_way found = record { found = found; up = λ up. absurd (let both : false ≡ true = up in cc) }

  abbrev Sends : List Message → Type 0
  Sends ms = AllOf (λ m. GrantsAbove handle version m.body) ms

  ends_passed : (m : MasterState) (d : MasterDoing) (choice : Choice) (e : Ending) → HasPassed handle version m → IsRowing m.disk (core_of d) → IsStill m.disk (core_of d) d.master.attempts
      → Sends (master_ends m d choice e).out.sent × HasPassed handle version (master_ends m d choice e).state
  ends_passed m d choice Goes h n g = (
    all_in_order (λ (x : Message). GrantsAbove handle version x.body) choice.order d.sent g.sent,
    record {
      found = subst (λ (xs : List LogChange). AllFound (IsLogPassed handle version) d.master.disk xs) (sym n.none) (found_same (IsLogPassed handle version) d.master.disk g.disk);
      up = λ _. (g.state, g.above);
    },
  )
  ends_passed m d choice Lost h n g = (tt, down_passed m m.disk [] (found_same (IsLogPassed handle version) m.disk (h.found [])))
  ends_passed m d choice (Stops made) h n g =
      (tt, down_passed m (log_changed_by_all m.disk (take made d.changes)) (take 1 (drop made d.changes)) (found_stopped (IsLogPassed handle version) m.disk d.changes made g.stops))

  -- what a step grants of the chunk follows the number
  pub step_passed : (m : MasterState) (moment : ℕ) (i : NodeInput) (choice : Choice) → IsLogged IsFoundRows IsRowedLog rows_kept m → WaitsHere m → HasPassed handle version m
      → AllOf (λ (x : Message). GrantsAbove handle version x.body) (master_step m moment i choice).out.sent × HasPassed handle version (master_step m moment i choice).state
  step_passed m moment i choice logged waits h =
      let d : MasterDoing = master_goes m moment i choice.refused in
      let good : Taken MasterState → Type 0 = λ t. Sends t.out.sent × HasPassed handle version t.state in
      on_cond good m.up (master_bounded m i d choice) (no_step m)
      (λ up. on_cond good (may_end m i d choice.ending) (master_ends m d choice choice.ending) (no_step m)
      (λ _.
      let u : IsUpToLog IsFoundRows IsRowedLog rows_kept m = logged.up up in
      let end =
      goes_acts NoneEnded (IsRowing m.disk) (Beyond handle version (IsLogPassed handle version) (λ d h. h) m.disk) m moment i choice.refused (rowing_keeps m.disk) (λ c n. n)
      (beyond_acts handle version (IsLogPassed handle version) (λ d h. h) m.disk) (any_input i) logged up waits
      (record { none = u.idle; disk = refl; same = u.same; tied = u.tied; stops = logged.found [] })
      (record { state = (h.up up).0; above = (h.up up).1; sent = tt; disk = h.found []; stops = h.found [] }) in
      ends_passed m d choice choice.ending h end.0 end.2)
      (λ _. (tt, h)))
      (λ _. (tt, h))

  -- a master that opens

  epoch_begun : (start : LogDisk) (c : Core) (attempts : Attempts) (epoch : ℕ) → log_changed_by_all start c.changes ≡ c.disk → IsStill start c attempts → IsStill start (core_appended c (log.Epoch epoch)) attempts
  epoch_begun start c attempts epoch disk h =
      changed handle version (IsLogPassed handle version) (λ d g. g) start c attempts attempts (AppendRecord (log.Epoch epoch)) (after_record c.logged (log.Epoch epoch)) disk h.state
      (subst (λ (k : Logged). IsPassed handle version k) (sym (state-appended c.disk (log.Epoch epoch))) h.disk) h.above h

  opening_passed : (config : Config) (count : ℕ) (found : LogDisk) (moment : ℕ) → IsGood IsFoundRows IsRowedLog rows_kept found → IsLogPassed handle version found
      → (let d : MasterDoing = opening (started_master config count found moment) in IsStill found (core_of d) d.master.attempts)
  opening_passed config count found moment good h =
      let started : MasterState = started_master config count found moment in
      let d : MasterDoing = master_begins started [] in
      let epoch : ℕ = suc started.logged.epoch in
      let row : IsRowing found (core_of d) = opening_first IsFoundRows IsRowedLog rows_kept config count found moment good in
      let first : IsStill found (core_of d) d.master.attempts =
      record { state = started_passed handle version config count found moment h; above = λ r there a is. none_some a (sym (table.get-empty nat_cmp handle) ∙ is); sent = tt; disk = h; stops = h } in
      let less : IsStill found (core_of (writes_checkpoint d)) (writes_checkpoint d).master.attempts =
      checkpointed handle version (IsLogPassed handle version) (λ e g. g) found (core_of d) d.master.attempts good.0 row first in
      logs_alone (λ e. IsStill found (core_of e) e.master.attempts) d (log.Epoch epoch) first (epoch_begun found (core_of d) d.master.attempts epoch refl first) less
      (epoch_begun found (core_of (writes_checkpoint d)) (writes_checkpoint d).master.attempts epoch ((rowing_keeps found).checkpoint (core_of d) (λ _. good.0) row).disk less)

  opens_passed : (old : MasterState) (moment : ℕ) (choice : Choice) (e : Ending) → IsIssued old → IsLogged IsFoundRows IsRowedLog rows_kept old → HasPassed handle version old
      → (let started : MasterState = started_master old.config old.server_count (found_log old choice) moment in HasPassed handle version (opens_as old started (opening started) choice e).state)
  opens_passed old moment choice Lost issued logged h = down_passed old old.disk old.under_way h.found
  opens_passed old moment choice (Stops made) issued logged h =
      let found : LogDisk = found_log old choice in
      let d : MasterDoing = opening (started_master old.config old.server_count found moment) in
      let g : IsStill found (core_of d) d.master.attempts = opening_passed old.config old.server_count found moment (logged.found choice.decided) (h.found choice.decided) in
      down_passed old (log_changed_by_all found (take made d.changes)) (take 1 (drop made d.changes)) (found_stopped (IsLogPassed handle version) found d.changes made g.stops)
  opens_passed old moment choice Goes issued logged h =
      let found : LogDisk = found_log old choice in
      let started : MasterState = started_master old.config old.server_count found moment in
      let d : MasterDoing = opening started in
      let n : IsRowing found (core_of d) = (opening_naming IsFoundRows IsRowedLog rows_kept old.config old.server_count found moment (logged.found choice.decided) (issued.found choice.decided)).0 in
      let g : IsStill found (core_of d) d.master.attempts = opening_passed old.config old.server_count found moment (logged.found choice.decided) (h.found choice.decided) in
      on_cond (λ (t : Taken MasterState). HasPassed handle version t.state) (has_opened started d && is_within_limits d.master) _ _
      (λ _. record {
        found = subst (λ (xs : List LogChange). AllFound (IsLogPassed handle version) d.master.disk xs) (sym n.none) (found_same (IsLogPassed handle version) d.master.disk g.disk);
        up = λ _. (g.state, g.above);
      })
      (λ _. down_passed old d.master.disk [] (found_same (IsLogPassed handle version) d.master.disk g.disk))

  pub restart_passed : (m : MasterState) (moment : ℕ) (choice : Choice) → IsIssued m → IsLogged IsFoundRows IsRowedLog rows_kept m → HasPassed handle version m → HasPassed handle version (master_restart m moment choice).state
  restart_passed m moment choice issued logged h = opens_passed m moment choice choice.ending issued logged h
