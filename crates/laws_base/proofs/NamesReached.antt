-- In each world that is reached, a master that is up has the names, counters, epoch and kept answers of its log, and what else its records keep of them.
use Rattle.std.proofs.Common.{◌≡◌, ◌⊎◌, ℕ, suc, ◌+◌, ◌≤◌, Bool, true, false, cond, List, [], ◌∷◌, map, take, drop, Option, Some, None, refl, sym, ap, subst, ◌∙◌, inl, inr, arith}
use Rattle.std.specs.Prelude.{◌==◌, ◌&&◌, not, option_map, IsTrue}
use Rattle.std.specs.Ordering.{nat_cmp, eq_by_cmp}
use Rattle.std.specs.Cmp.{nat_cmp_total, unsigned_tied}
use Rattle.std.specs.FinMap.Entries.{find}
use Rattle.std.proofs.lemmas.Bool.{and_parts, leb-true, eqb-true}
use Rattle.std.specs.FinMap as table
use Rattle.gfs_types.specs.declared.config.Config.{Config}
use Rattle.messages.specs.declared.event.NodeInput.{NodeInput}
use Rattle.log_records.specs.declared.record.Record.{Record}
use Rattle.log_records.specs.declared.record.Record.TheVariants as log
use Rattle.relaxed_file.specs.Names.{Names}
use Rattle.relaxed_file.proofs.NamesTree.{Tree, first_tree}
use Rattle.gfs_types.specs.Counters.{counter_limit}
use Rattle.protocol.specs.Tables.{Table, map_values}
use Rattle.protocol.specs.Choice.{Choice, Ending, Goes, Lost, Stops}
use Rattle.protocol.specs.Seen.{Taken, no_step}
use Rattle.chunk_table.specs.ChunkTable.{ChunkRow, ChunkTable, changed_by, no_shape, known_shape}
use Rattle.protocol.specs.LogSizes.{checkpoint_fits}
use Rattle.protocol.specs.Logged.{Logged, LogDisk, LogChange, AppendRecord, WriteCheckpoint, first_logged, log_changed, log_changed_by_all, after_record, after_records, checkpoint_of, copies_given_up, all_copies_given_up}
use Rattle.protocol.specs.Master.{MasterState, MasterDoing, stopped_master, master_begins, fits, appends, writes_checkpoint, logs_after_checkpoint, is_of_copy}
use Rattle.protocol.specs.MasterLimits.{can_count}
use Rattle.protocol.specs.MasterStep.{master_goes, master_ends, master_bounded, master_step, is_within_limits, may_end, found_log, row_after_restart, started_master, opening, has_opened, opens_as, new_master, first_log}
use Rattle.protocol.specs.World.{WorldState, IsReached}
use Rattle.laws_base.proofs.Steps.{on_cond, none_some, put_cases}
use Rattle.laws_base.proofs.Entries.{mapped_cases, mapped_at}
use Rattle.laws_base.proofs.ChunkRows.{Rows, rows_of, AreIssued, issued_from}
use Rattle.laws_base.proofs.LeasesEnded.{AreReady, none_ready, less_ready}
use Rattle.laws_base.proofs.GrantedIssued.{IsIssued, step_issued, opens_issued, new_issued, started_from}
use Rattle.laws_base.proofs.Namespace.{IsNamespace, names_are_after}
use Rattle.laws_base.proofs.CopiesUnderWay.{AreCopied, AreSoundCopies, no_copies}
use Rattle.laws_base.proofs.MasterMoves.{Core, core_of, IsDue, Nothing, NoneEnded, AreNames, Keeps, core_changed, core_appended, core_ended, grant_record}
use Rattle.laws_base.proofs.MasterSteps.{no_input, goes_named}
use Rattle.laws_base.proofs.OrderNumbers.{state_of, state-appended, AllStops, stops_push, changed-push, AllFound, found_same, found_stopped}
use Rattle.laws_base.proofs.LoggedParts.{Parts, parts_of, same_after, checkpoint_parts}
use Rattle.laws_base.proofs.MasterReached.{reached_here}
use Rattle.gfs_types.specs.declared.shape.Shape.{Shape}
use Rattle.gfs_types.specs.Shapes.{usual_shape}

-- the ends of leases aside
abbrev pub without_end : ChunkRow → ChunkRow
without_end row = record row { shape = no_shape; lease_end = 0 }

abbrev pub AreSameButEnds : Table ChunkRow → Table ChunkRow → Type 0
AreSameButEnds t u = (handle : ℕ) → option_map without_end (table.get t handle) ≡ option_map without_end (table.get u handle)

-- a shape that is known stays
pub known_stays : (usual s : Shape) → (known_shape usual s ≡ s) ⊎ (s.chunk ≡ 0)
known_stays usual s = by_test (s.chunk == 0) refl
  where
    by_test : (b : Bool) → (s.chunk == 0) ≡ b → (cond b usual s ≡ s) ⊎ (s.chunk ≡ 0)
    by_test true none = inr (eqb-true s.chunk 0 none)
    by_test false some = inl refl

-- shapes of files, and of chunks with them, become others, where they weren't known
pub record AreShapedBy (f : Shape → Shape) (t : ChunkTable) (shapes : Table Shape) (chunks : Table ChunkRow) : Type 0 where
  pub stays : (s : Shape) → (f s ≡ s) ⊎ (s.chunk ≡ 0)
  pub files : (file : ℕ) (shape : Shape) → table.get t.shapes file ≡ Some shape → table.get shapes file ≡ Some (f shape)
  pub back : (file : ℕ) (shape : Shape) → table.get shapes file ≡ Some shape → (old : Shape) × (table.get t.shapes file ≡ Some old) × (f old ≡ shape)
  pub rows : (handle : ℕ) (row : ChunkRow) → table.get chunks handle ≡ Some row → (old : ChunkRow) × (table.get t.chunks handle ≡ Some old) × (f old.shape ≡ row.shape)

-- What is needed to hold in each reached world of what the master keeps and what its log says, with what it says of the log alone.
pub record IsKeptByLog (G : Logged → Type 0) (R : Logged → Logged → Type 0) : Type 0 where
  pub good : (l k : Logged) → R l k → G k
  pub sound : (l k : Logged) → R l k → AreSoundCopies l
  pub new : R first_logged first_logged
  pub restart : (k : Logged) → G k → R (all_copies_given_up k) k
  pub epochs : (l k : Logged) (epoch : ℕ) → R l k → R (record l { epoch = epoch }) (record k { epoch = epoch })
  -- a record is logged where the names fit, and is replayed from the same names
  pub records : (l k : Logged) (r : Record) → parts_of l ≡ parts_of k → IsDue (Unit {0}) l r → AreNames l r → R l k → R (after_record l r) (after_record k r)
  pub checkpoint : (l k : Logged) → parts_of l ≡ parts_of k → Tree l.names → R l k → R (all_copies_given_up l) (after_records first_logged (checkpoint_of l))
  pub less : (l k : Logged) (handles : List ℕ) → AreCopied l handles → R l k → R (copies_given_up l handles) k
  pub rows : (l k : Logged) (f : Shape → Shape) (shapes : Table Shape) (chunks : Table ChunkRow) → AreSameButEnds l.table.chunks chunks → AreShapedBy f l.table shapes chunks
      → R l k → R (record l { table = record l.table { shapes = shapes; chunks = chunks } }) k

-- a chunk whose lease's end is set is the same but for that
pub ended_same : (t : Table ChunkRow) (handle moment : ℕ) → AreSameButEnds t (changed_by t handle (λ row. record row { lease_end = moment }) (table.get t handle))
ended_same t handle moment q = by_row (table.get t handle) refl
  where
    by_key : (row : ChunkRow) (b : Bool) → (q == handle) ≡ b → table.get t handle ≡ Some row
        → option_map without_end (table.get t q) ≡ option_map without_end (cond b (Some (record row { lease_end = moment })) (table.get t q))
    by_key row true e is = ap (λ (o : Option ChunkRow). option_map without_end o) (ap (λ (n : ℕ). table.get t n) (eqb-true q handle e) ∙ is)
    by_key row false e is = refl

    by_row : (o : Option ChunkRow) → table.get t handle ≡ o → option_map without_end (table.get t q) ≡ option_map without_end (table.get (changed_by t handle (λ row. record row { lease_end = moment }) o) q)
    by_row None is = refl
    by_row (Some row) is =
        by_key row (q == handle) refl is
        ∙ sym (ap (λ (o : Option ChunkRow). option_map without_end o)
        (table.get-insert nat_cmp_total t handle (record row { lease_end = moment }) q ∙ ap (λ (b : Bool). cond b (Some (record row { lease_end = moment })) (table.get t q)) (unsigned_tied q handle)))

-- and has the same shape
ended_shape : (t : Table ChunkRow) (handle moment q : ℕ) (row : ChunkRow) → table.get (changed_by t handle (λ r. record r { lease_end = moment }) (table.get t handle)) q ≡ Some row
    → (old : ChunkRow) × (table.get t q ≡ Some old) × (old.shape ≡ row.shape)
ended_shape t handle moment q row is = by_row (table.get t handle) refl is
  where
    by_row : (o : Option ChunkRow) → table.get t handle ≡ o → table.get (changed_by t handle (λ r. record r { lease_end = moment }) o) q ≡ Some row
        → (old : ChunkRow) × (table.get t q ≡ Some old) × (old.shape ≡ row.shape)
    by_row None at now = (row, now, refl)
    by_row (Some old) at now =
        elim (put_cases t handle (record old { lease_end = moment }) q row now) [
          | inl new ↦ (old, ap (λ (n : ℕ). table.get t n) new.0 ∙ at, ap (λ (r : ChunkRow). r.shape) new.1)
          | inr before ↦ (row, before, refl)
        ]

-- chunks whose rows are the same but for the ends, as lists
same_found : (change : ChunkRow → ChunkRow) → ((row : ChunkRow) → without_end row ≡ without_end (change row)) → (es : List (ℕ × ChunkRow)) (q : ℕ)
    → option_map without_end (find nat_cmp q es) ≡ option_map without_end (find nat_cmp q (map (λ e. (e.0, change e.1)) es))
same_found change same [] q = refl
same_found change same (e ∷ es) q = by_key (eq_by_cmp nat_cmp q e.0) (same_found change same es q)
  where
    by_key : (b : Bool) → option_map without_end (find nat_cmp q es) ≡ option_map without_end (find nat_cmp q (map (λ x. (x.0, change x.1)) es))
        → option_map without_end (cond b (Some e.1) (find nat_cmp q es)) ≡ option_map without_end (cond b (Some (change e.1)) (find nat_cmp q (map (λ x. (x.0, change x.1)) es)))
    by_key true rest = ap (λ (row : ChunkRow). Some row) (same e.1)
    by_key false rest = rest

pub mapped_same : (t : Table ChunkRow) (change : ChunkRow → ChunkRow) → ((row : ChunkRow) → without_end row ≡ without_end (change row)) → AreSameButEnds t (map_values change t)
mapped_same t change same q =
    ap (λ (o : Option ChunkRow). option_map without_end o) (table.get-entries t q) ∙ same_found change same (table.entries t) q
    ∙ sym (ap (λ (o : Option ChunkRow). option_map without_end o) (table.get-from_entries nat_cmp_total (map (λ e. (e.0, change e.1)) (table.entries t)) q))

later_end : (config : Config) (moment : ℕ) (row : ChunkRow) → without_end row ≡ without_end (row_after_restart config moment row)
later_end config moment row = refl

module _ (G : Logged → Type 0) (R : Logged → Logged → Type 0) (b : IsKeptByLog G R) where
  abbrev pub IsGood : LogDisk → Type 0
  IsGood d = Tree (state_of d).names × G (state_of d)

  -- a step so far, from what was on the disk
  pub record IsNaming (start : LogDisk) (c : Core) : Type 0 where
    pub none : c.under_way ≡ []
    pub disk : log_changed_by_all start c.changes ≡ c.disk
    pub same : parts_of c.logged ≡ parts_of (state_of c.disk)
    pub tied : R c.logged (state_of c.disk)
    pub stops : AllStops IsGood start c.changes

  -- the disk and the state change together
  changed : (start : LogDisk) (c : Core) (x : LogChange) (l : Logged) → parts_of l ≡ parts_of (state_of (log_changed c.disk x)) → Tree l.names → R l (state_of (log_changed c.disk x))
      → IsNaming start c → IsNaming start (record (core_changed c x) { logged = l })
  changed start c x l same tree tied h =
      record {
        none = h.none;
        disk = changed-push start c.changes x ∙ ap (λ (d : LogDisk). log_changed d x) h.disk;
        same = same;
        tied = tied;
        stops = stops_push IsGood start c.changes x h.stops
            (subst (λ (d : LogDisk). IsGood (log_changed d x)) (sym h.disk) (subst (λ (n : Names). Tree n) (ap (λ (p : Parts). p.names) same) tree, b.good l (state_of (log_changed c.disk x)) tied));
      }

  appended : (start : LogDisk) (c : Core) (r : Record) → Tree (after_record c.logged r).names → R (after_record c.logged r) (after_record (state_of c.disk) r) → IsNaming start c
      → IsNaming start (record (core_changed c (AppendRecord r)) { logged = after_record c.logged r })
  appended start c r tree tied h =
      changed start c (AppendRecord r) (after_record c.logged r)
      (same_after c.logged (state_of c.disk) r h.same ∙ sym (ap (λ (k : Logged). parts_of k) (state-appended c.disk r))) tree
      (subst (λ (k : Logged). R (after_record c.logged r) k) (sym (state-appended c.disk r)) tied) h

  checkpointed : (start : LogDisk) (c : Core) → Tree c.logged.names → IsNaming start c
      → IsNaming start (record (core_changed c (WriteCheckpoint (checkpoint_of c.logged))) { logged = all_copies_given_up c.logged })
  checkpointed start c tree h =
      changed start c (WriteCheckpoint (checkpoint_of c.logged)) (all_copies_given_up c.logged) (sym (checkpoint_parts c.logged tree)) tree
      (b.checkpoint c.logged (state_of c.disk) h.same tree h.tied) h

  quieter : (start : LogDisk) (c : Core) (l : Logged) → parts_of l ≡ parts_of c.logged → R l (state_of c.disk) → IsNaming start c → IsNaming start (record c { logged = l })
  quieter start c l same tied h = record { none = h.none; disk = h.disk; same = same ∙ h.same; tied = tied; stops = h.stops }

  due_appended : (start : LogDisk) (c : Core) (r : Record) → IsDue (Unit {0}) c.logged r → AreNames c.logged r → IsNaming start c → IsNaming start (core_appended c r)
  due_appended start c r due n h = appended start c r (subst (λ (x : Names). Tree x) (sym (names_are_after c.logged r)) n.after) (b.records c.logged (state_of c.disk) r h.same due n h.tied) h

  ended : (start : LogDisk) (c : Core) (handle moment : ℕ) → IsNaming start c → IsNaming start (core_ended c handle moment)
  ended start c handle moment h =
      let rows : Table ChunkRow = changed_by c.logged.table.chunks handle (λ row. record row { lease_end = moment }) (table.get c.logged.table.chunks handle) in
      let shaped : AreShapedBy (λ shape. shape) c.logged.table c.logged.table.shapes rows = record { stays = λ s. inl refl; files = λ file shape is. is; back = λ file shape is. (shape, is, refl); rows = ended_shape c.logged.table.chunks handle moment } in
      quieter start c (record c.logged { table = record c.logged.table { chunks = rows } }) refl (b.rows c.logged (state_of c.disk) (λ shape. shape) c.logged.table.shapes rows (ended_same c.logged.table.chunks handle moment) shaped h.tied) h

  pub naming_keeps : (start : LogDisk) → (Ended : ℕ → ℕ → Type 0) → Keeps (Unit {0}) Nothing Ended (IsNaming start)
  naming_keeps start Ended =
      record {
        tells = λ c receiver body quiet h. record { none = h.none; disk = h.disk; same = h.same; tied = h.tied; stops = h.stops };
        revokes = λ c handle row is h. record { none = h.none; disk = h.disk; same = h.same; tied = h.tied; stops = h.stops };
        orders = λ c server body is plain h. record { none = h.none; disk = h.disk; same = h.same; tied = h.tied; stops = h.stops };
        grants = λ c handle version until primary members told due names from idle h.
            let r : Record = grant_record handle version primary members in
            let g : IsNaming start (core_ended (core_appended c r) handle until) = ended start (core_appended c r) handle until (due_appended start c r due (names tt) h) in
            record { none = g.none; disk = g.disk; same = g.same; tied = g.tied; stops = g.stops };
        appends = λ c r due plain names h. due_appended start c r due (names tt) h;
        checkpoint = λ c tree h. checkpointed start c (tree tt) h;
        sound = λ asks c h. b.sound c.logged (state_of c.disk) h.tied;
        less = λ c handles copied h. quieter start c (copies_given_up c.logged handles) refl (b.less c.logged (state_of c.disk) handles copied h.tied) h;
        ends = λ c handle row is word h. ended start c handle 0 h;
        extends = λ c handle until row is lasts later from h. let g : IsNaming start (core_ended c handle until) = ended start c handle until h in record { none = g.none; disk = g.disk; same = g.same; tied = g.tied; stops = g.stops };
      }

  -- of a master that is up, between its steps
  pub record IsUpToLog (m : MasterState) : Type 0 where
    pub idle : m.under_way ≡ []
    pub bound : m.logged.next_file ≤ counter_limit
    pub names : IsNamespace m.logged.names m.snapshots
    pub same : parts_of m.logged ≡ parts_of (state_of m.disk)
    pub tied : R m.logged (state_of m.disk)
    pub ready : AreReady m.now m.attempts m.logged

  pub record IsLogged (m : MasterState) : Type 0 where
    pub found : AllFound IsGood m.disk m.under_way
    pub up : IsTrue m.up → IsUpToLog m

  stopped : (m : MasterState) (disk : LogDisk) (under_way : List LogChange) → AllFound IsGood disk under_way → IsLogged (stopped_master m disk under_way)
  stopped m disk under_way h = record { found = h; up = λ up. absurd (let both : false ≡ true = up in cc) }

  within : (m : MasterState) → is_within_limits m ≡ true → m.logged.next_file ≤ counter_limit
  within m h =
      let handles = (and_parts _ _ (and_parts _ _ (and_parts _ _ (and_parts _ _ h).0).0).0).0 in
      leb-true m.logged.next_file counter_limit (and_parts _ _ handles).0

  running : (start : LogDisk) (d : MasterDoing) → is_within_limits d.master ≡ true → IsNaming start (core_of d) → IsNamespace d.master.logged.names d.master.snapshots
      → AreReady d.master.now d.master.attempts d.master.logged → IsLogged d.master
  running start d limits g names ready =
      let good : IsGood d.master.disk = (subst (λ (n : Names). Tree n) (ap (λ (p : Parts). p.names) g.same) names.tree, b.good d.master.logged (state_of d.master.disk) g.tied) in
      record {
        found = subst (λ (xs : List LogChange). AllFound IsGood d.master.disk xs) (sym g.none) (found_same IsGood d.master.disk good);
        up = λ _. record { idle = g.none; bound = within d.master limits; names = names; same = g.same; tied = g.tied; ready = ready };
      }

  ends_logged : (m : MasterState) (i : NodeInput) (d : MasterDoing) (choice : Choice) (e : Ending) → may_end m i d e ≡ true → IsLogged m → IsNaming m.disk (core_of d)
      → IsNamespace d.master.logged.names d.master.snapshots → AreReady d.master.now d.master.attempts d.master.logged → IsLogged (master_ends m d choice e).state
  ends_logged m i d choice Goes limits h g names ready = running m.disk d (and_parts (can_count m i) (is_within_limits d.master) limits).1 g names ready
  ends_logged m i d choice Lost limits h g names ready = stopped m m.disk [] (found_same IsGood m.disk (h.found []))
  ends_logged m i d choice (Stops made) limits h g names ready =
      stopped m (log_changed_by_all m.disk (take made d.changes)) (take 1 (drop made d.changes)) (found_stopped IsGood m.disk d.changes made g.stops)

  pub step_logged : (m : MasterState) (moment : ℕ) (i : NodeInput) (choice : Choice) → IsLogged m → IsLogged (master_step m moment i choice).state
  step_logged m moment i choice h =
      let d : MasterDoing = master_goes m moment i choice.refused in
      let good : Taken MasterState → Type 0 = λ t. IsLogged t.state in
      on_cond good m.up (master_bounded m i d choice) (no_step m)
      (λ up. on_cond good (may_end m i d choice.ending) (master_ends m d choice choice.ending) (no_step m)
      (λ limits.
      let u : IsUpToLog m = h.up up in
      let end = goes_named NoneEnded (IsNaming m.disk) (naming_keeps m.disk NoneEnded) m moment i choice.refused (no_input i) u.bound u.names u.ready
      (record { none = u.idle; disk = refl; same = u.same; tied = u.tied; stops = h.found [] }) in
      ends_logged m i d choice choice.ending limits h end.0 end.1 end.2)
      (λ _. h))
      (λ _. h)

  -- a master that has read its log
  pub opening_first : (config : Config) (count : ℕ) (found : LogDisk) (moment : ℕ) → IsGood found → IsNaming found (core_of (master_begins (started_master config count found moment) []))
  opening_first config count found moment good =
      let given_up : Logged = all_copies_given_up (state_of found) in
      let rows : Rows = map_values (row_after_restart config moment) given_up.table.chunks in
      let shapes : Table Shape = map_values (known_shape (usual_shape config)) given_up.table.shapes in
      let known : Shape → Shape = known_shape (usual_shape config) in
      let shaped : AreShapedBy known given_up.table shapes rows =
      record {
        stays = known_stays (usual_shape config);
        files = λ file shape is. mapped_at known given_up.table.shapes file shape is;
        back = λ file shape is. mapped_cases known given_up.table.shapes file shape is;
        rows = λ handle row is. let old = mapped_cases (row_after_restart config moment) given_up.table.chunks handle row is in (old.0, old.1, ap (λ (r : ChunkRow). r.shape) old.2);
      } in
      let kept : R (record given_up { table = record given_up.table { shapes = shapes; chunks = rows } }) (state_of found) =
      b.rows given_up (state_of found) known shapes rows (mapped_same given_up.table.chunks (row_after_restart config moment) (later_end config moment)) shaped (b.restart (state_of found) good.1) in
      record { none = refl; disk = refl; same = refl; tied = kept; stops = good }

  pub opening_naming : (config : Config) (count : ℕ) (found : LogDisk) (moment : ℕ) → IsGood found → AreIssued (rows_of (state_of found))
      → (let d : MasterDoing = opening (started_master config count found moment) in IsNaming found (core_of d) × Tree d.master.logged.names × (d.master.snapshots ≡ []) × AreReady d.master.now d.master.attempts d.master.logged)
  opening_naming config count found moment good issued =
      let started : MasterState = started_master config count found moment in
      let d : MasterDoing = master_begins started [] in
      let r : Record = log.Epoch (suc d.master.logged.epoch) in
      let given_up : Logged = all_copies_given_up (state_of found) in
      let first : IsNaming found (core_of d) = opening_first config count found moment good in
      let all : MasterDoing → Type 0 = λ e. IsNaming found (core_of e) × Tree e.master.logged.names × (e.master.snapshots ≡ []) × AreReady e.master.now e.master.attempts e.master.logged in
      let begins : (e : MasterDoing) → all e → all (appends e r) =
      λ e h. (
        appended found (core_of e) r h.1 (b.epochs e.master.logged (state_of e.master.disk) (suc d.master.logged.epoch) h.0.tied) h.0,
        h.1,
        h.2,
        record { ahead = (h.3).ahead; attempted = (h.3).attempted; copied = (h.3).copied },
      ) in
      let rows : Rows = rows_of started.logged in
      let ready : AreReady moment table.empty started.logged = none_ready moment started.logged (issued_from (rows_of (state_of found)) rows (started_from config found moment) issued) (no_copies (state_of found).copies) in
      let one : all d = (first, good.0, refl, ready) in
      let two : all (writes_checkpoint d) = (checkpointed found (core_of d) good.0 first, good.0, refl, less_ready moment table.empty started.logged (table.keys started.logged.copies) ready) in
      on_cond all (fits d r) (appends d r) _ (λ _. begins d one)
      (λ _. on_cond all (checkpoint_fits d.master.config.log_bytes (checkpoint_of d.master.logged)) (logs_after_checkpoint (writes_checkpoint d) r (is_of_copy d.master.logged r) (λ e. e)) d
      (λ _. on_cond all (fits (writes_checkpoint d) r && not (is_of_copy d.master.logged r)) (appends (writes_checkpoint d) r) (writes_checkpoint d) (λ _. begins (writes_checkpoint d) two) (λ _. two))
      (λ _. one))

  no_snapshots : (d : MasterDoing) → Tree d.master.logged.names → d.master.snapshots ≡ [] → IsNamespace d.master.logged.names d.master.snapshots
  no_snapshots d tree none = subst (λ ss. IsNamespace d.master.logged.names ss) (sym none) (record { tree = tree; free = tt; apart = tt })

  pub opens_logged : (old : MasterState) (moment : ℕ) (choice : Choice) (e : Ending) → IsIssued old → IsLogged old
      → (let started : MasterState = started_master old.config old.server_count (found_log old choice) moment in IsLogged (opens_as old started (opening started) choice e).state)
  opens_logged old moment choice Lost issued h = stopped old old.disk old.under_way h.found
  opens_logged old moment choice (Stops made) issued h =
      let found : LogDisk = found_log old choice in
      let d : MasterDoing = opening (started_master old.config old.server_count found moment) in
      stopped old (log_changed_by_all found (take made d.changes)) (take 1 (drop made d.changes))
      (found_stopped IsGood found d.changes made (opening_naming old.config old.server_count found moment (h.found choice.decided) (issued.found choice.decided)).0.stops)
  opens_logged old moment choice Goes issued h =
      let found : LogDisk = found_log old choice in
      let started : MasterState = started_master old.config old.server_count found moment in
      let d : MasterDoing = opening started in
      let g = opening_naming old.config old.server_count found moment (h.found choice.decided) (issued.found choice.decided) in
      let good : IsGood d.master.disk = (subst (λ (n : Names). Tree n) (ap (λ (p : Parts). p.names) g.0.same) g.1, b.good d.master.logged (state_of d.master.disk) g.0.tied) in
      on_cond (λ (t : Taken MasterState). IsLogged t.state) (has_opened started d && is_within_limits d.master) _ _
      (λ both. running found d (and_parts (has_opened started d) (is_within_limits d.master) both).1 g.0 (no_snapshots d g.1 g.2) g.3) (λ _. stopped old d.master.disk [] (found_same IsGood d.master.disk good))

  pub new_logged : (config : Config) (servers : ℕ) → IsLogged (new_master config servers)
  new_logged config servers =
      let one : Logged = record first_logged { epoch = 1 } in
      let tied : R one one = b.epochs first_logged first_logged 1 b.new in
      record {
        found = found_same IsGood first_log (first_tree, b.good one one tied);
        up = λ _. record { idle = refl; bound = omega arith; names = record { tree = first_tree; free = tt; apart = tt }; same = refl; tied = tied; ready = none_ready 0 one (λ handle row is. none_some row (sym (table.get-empty nat_cmp handle) ∙ is)) (λ handle. table.get-empty nat_cmp handle) };
      }

  pub logged_here : (config : Config) (servers clients : ℕ) (w : WorldState) → IsReached config servers clients w → IsIssued w.master × IsLogged w.master
  logged_here config servers clients w r =
      reached_here (λ m. IsIssued m × IsLogged m)
      (record {
        new = λ c n. (new_issued c n, new_logged c n);
        steps = λ m moment i choice h. (step_issued m moment i choice h.0, step_logged m moment i choice h.1);
        restarts = λ m moment choice h. (opens_issued m moment choice choice.ending h.0, opens_logged m moment choice choice.ending h.0 h.1);
      }) config servers clients w r

  pub logged_reached : (config : Config) (servers clients : ℕ) (w : WorldState) → IsReached config servers clients w → IsTrue w.master.up → IsUpToLog w.master
  logged_reached config servers clients w r = (logged_here config servers clients w r).1.up
