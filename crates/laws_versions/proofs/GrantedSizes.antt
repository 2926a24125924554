-- With which size of its chunk a Grant goes, by the step in which the master sends it.
use Rattle.std.proofs.Common.{◌≡◌, ◌⊎◌, ℕ, ◌+◌, ◌≤◌, List, [], ◌∷◌, ◌++◌, Option, Some, None, refl, sym, ap, subst, ◌∙◌, inl, inr, arith}
use Rattle.std.proofs.Math.Nat.{le-max_left}
use Rattle.std.specs.Prelude.{Bool, IsTrue}
use Rattle.std.specs.FinMap as table
use Rattle.gfs_types.specs.declared.config.Config.{Config}
use Rattle.gfs_types.specs.declared.shape.Shape.{Shape}
use Rattle.gfs_types.specs.Paths.{Path}
use Rattle.messages.specs.declared.message.Body.{Body}
use Rattle.messages.specs.declared.message.Message.{Message}
use Rattle.messages.specs.declared.event.NodeInput.{NodeInput}
use Rattle.log_records.specs.declared.record.Record.{Record}
use Rattle.log_records.specs.declared.record.Record.TheVariants as log
use Rattle.relaxed_file.specs.Names.{Node, copied_entries}
use Rattle.chunk_table.specs.ChunkTable.{ChunkRow, chunk_of, handles_of, shape_in, added_row, copied_row, row_issued, row_granted, grant}
use Rattle.protocol.specs.Tables.{element_at}
use Rattle.protocol.specs.Choice.{Choice, Ending, Goes, Lost, Stops}
use Rattle.protocol.specs.Seen.{Taken, no_step}
use Rattle.protocol.specs.Logged.{Logged, LogDisk, Copy, after_record, copies_given_up, swapped_in, with_copied_nodes}
use Rattle.protocol.specs.Master.{MasterState, MasterDoing}
use Rattle.protocol.specs.MasterVersions.{chunk_size_of}
use Rattle.protocol.specs.MasterStep.{master_goes, master_ends, master_bounded, master_step, may_end}
use Rattle.protocol.specs.World.{WorldState, IsReached}
use Rattle.laws_base.specs.Laws.{HaveFilesShapes}
use Rattle.laws_base.proofs.Steps.{on_cond, same_some, put_cases}
use Rattle.laws_base.proofs.Words.{quiet_nothing}
use Rattle.laws_base.proofs.Entries.{AllOf, all_joined}
use Rattle.laws_base.proofs.LeaseOrders.{grant_body, GrantsNothing}
use Rattle.laws_base.proofs.MembersRecorded.{all_at, all_in_order}
use Rattle.laws_base.proofs.ChunkRows.{Rows, rows_of, all_copied_owned, swapped_owned, expired_owned}
use Rattle.laws_base.proofs.Owners.{HasRow, chunk_row, placed_stands}
use Rattle.laws_base.proofs.CountsLogged.{IsCountedLog, apart_here, keeps_row, swap_row}
use Rattle.laws_base.proofs.GrantsOnce.{row_below}
use Rattle.laws_base.proofs.MasterMoves.{Core, core_appended, core_ended, grant_record, IsDue, Keeps, Nothing, NoneEnded, plain_nothing}
use Rattle.laws_base.proofs.MasterSteps.{no_input, goes_named}
use Rattle.laws_base.proofs.NamesReached.{IsUpToLog, IsLogged, naming_keeps, logged_here}
use Rattle.laws_base.proofs.OrderNumbers.{state_of}
use Rattle.laws_base.proofs.RevokesNumbered.{IsRowing}
use Rattle.laws_base.proofs.RowsLogged.{IsFoundRows, IsRowedLog}
use Rattle.laws_base.proofs.RowsKept.{rows_kept}
use Rattle.laws_base.proofs.ShapesKept.{KeepsShapes, joined_keeps, changed_keeps, owned_keeps, removed_keeps, chunks_have_their_files_shapes}
use Rattle.laws_versions.specs.ToldSizes.{IsOfFiles, GrantsTellTheirFilesSizes, ToldShapesAreTheirFiles}
use Rattle.laws_base.specs.ToldShapes.{IsShapeIn}
use Rattle.laws_base.proofs.ToldShapes.{told_shapes_are_of_their_chunks}

-- a grant keeps the shapes of rows, and its own row

grant_keeps : (l : Logged) (handle version primary : ℕ) (members : List ℕ) (o : Option Copy)
    → KeepsShapes (rows_of l) (rows_of (swapped_in (record l { table = grant l.table handle version primary members }) handle o))
grant_keeps l handle version primary members None = changed_keeps (rows_of l) handle (row_granted version primary members) (λ row. refl)
grant_keeps l handle version primary members (Some c) =
    let one : Logged = record l { table = grant l.table handle version primary members } in
    let after : Rows = rows_of (swapped_in one handle (Some c)) in
    joined_keeps (rows_of l) (rows_of one) after (changed_keeps (rows_of l) handle (row_granted version primary members) (λ row. refl))
    (owned_keeps (rows_of one) after (swapped_owned one handle (Some c)))

granted_there : (l k : Logged) (handle version primary : ℕ) (members : List ℕ) → IsCountedLog l k → HasRow (rows_of l) handle
    → HasRow (rows_of (after_record l (grant_record handle version primary members))) handle
granted_there l k handle version primary members h has = by_copy (table.get l.copies handle) refl
  where
    one : Logged
    one = record l { table = grant l.table handle version primary members }

    still : HasRow (rows_of one) handle
    still = keeps_row (rows_of l) handle (row_granted version primary members) (table.get (rows_of l) handle) handle has

    by_copy : (o : Option Copy) → table.get l.copies handle ≡ o → HasRow (rows_of (swapped_in one handle o)) handle
    by_copy None none = still
    by_copy (Some c) some = swap_row one handle (Some c) handle (λ d same. h.placed handle d (some ∙ same)) (apart_here l k h handle c some) still

-- the size that is told with a grant is that of the chunk's row before it
granted_size : (l k : Logged) (handle version primary : ℕ) (members : List ℕ) (row : ChunkRow) → IsCountedLog l k → table.get (rows_of l) handle ≡ Some row
    → row.shape.chunk ≡ chunk_size_of (after_record l (grant_record handle version primary members)).table handle
granted_size l k handle version primary members row h at =
    let new = granted_there l k handle version primary members h (row, at) in
    let old = grant_keeps l handle version primary members (table.get l.copies handle) handle new.0 new.1 in
    ap (λ (r : ChunkRow). r.shape.chunk) (same_some row old.0 (sym at ∙ old.1)) ∙ ap (λ (s : Shape). s.chunk) old.2 ∙ sym (ap (λ (o : Option ChunkRow). (shape_in o).chunk) new.1)

module _ (l : Logged) where
  -- the chunk was there with this size, or its handle is new
  abbrev pub IsSizeIn : ℕ → ℕ → Type 0
  IsSizeIn handle chunk = ((row : ChunkRow) × (chunk_of l.table handle ≡ Some row) × (row.shape.chunk ≡ chunk)) ⊎ (l.next_handle ≤ handle)

  -- sizes since the step began
  pub record AreSized (k : Logged) : Type 0 where
    pub next : l.next_handle ≤ k.next_handle
    pub rows : (handle : ℕ) (row : ChunkRow) → table.get (rows_of k) handle ≡ Some row → IsSizeIn handle row.shape.chunk

  pub same_sized : AreSized l
  same_sized = record { next = omega arith; rows = λ handle row is. inl (row, is, refl) }

  kept_sized : (k m : Logged) → k.next_handle ≤ m.next_handle → KeepsShapes (rows_of k) (rows_of m) → AreSized k → AreSized m
  kept_sized k m grows keeps h =
      record {
        next = let low = h.next in omega (arith, low, grows);
        rows = λ handle row is. let old = keeps handle row is in subst (λ (s : Shape). IsSizeIn handle s.chunk) old.2 (h.rows handle old.0 old.1);
      }

  -- one chunk more
  put_sized : (k m : Logged) (new : ℕ) (added : ChunkRow) → new ≡ k.next_handle → k.next_handle ≤ m.next_handle → rows_of m ≡ table.insert (rows_of k) new added
      → AreSized k → AreSized m
  put_sized k m new added is_next grows are h =
      record {
        next = let low = h.next in omega (arith, low, grows);
        rows = λ handle row is.
            elim (put_cases (rows_of k) new added handle row (subst (λ (rows : Rows). table.get rows handle ≡ Some row) are is)) [
              | inl now ↦ inr (let low = h.next in let key = now.0 in omega (arith, low, is_next, key))
              | inr before ↦ h.rows handle row before
            ];
      }

  pub swapped_sized : (k : Logged) (handle version primary : ℕ) (members : List ℕ) (o : Option Copy) → AreSized k
      → AreSized (swapped_in (record k { table = grant k.table handle version primary members }) handle o)
  swapped_sized k handle version primary members None h =
      kept_sized k (swapped_in (record k { table = grant k.table handle version primary members }) handle None) (omega arith) (grant_keeps k handle version primary members None) h
  swapped_sized k handle version primary members (Some c) h =
      kept_sized k (swapped_in (record k { table = grant k.table handle version primary members }) handle (Some c)) (omega arith) (grant_keeps k handle version primary members (Some c)) h

  pub sized_after : (k : Logged) (r : Record) → IsDue (Unit {0}) k r → AreSized k → AreSized (after_record k r)
  sized_after k (log.Snapshot client n from to) due h =
      let es : List (Path × Node) = copied_entries k.names from to in
      kept_sized k (after_record k (log.Snapshot client n from to)) (omega arith)
      (owned_keeps (rows_of k) (with_copied_nodes k.table k.next_file es).chunks (all_copied_owned k.table k.next_file es)) h
  sized_after k (log.Expired file) due h =
      kept_sized k (after_record k (log.Expired file)) (omega arith) (owned_keeps (rows_of k) (rows_of (after_record k (log.Expired file))) (expired_owned k file)) h
  sized_after k (log.AddChunk file handle) due h =
      put_sized k (after_record k (log.AddChunk file handle)) handle.0 (added_row k.table file.0) due.0 (le-max_left k.next_handle (handle.0 + 1)) refl h
  sized_after k (log.Issue handle version) due h =
      kept_sized k (after_record k (log.Issue handle version)) (omega arith) (changed_keeps (rows_of k) handle.0 (row_issued version.0) (λ row. refl)) h
  sized_after k (log.Grant handle version primary members) due h = swapped_sized k handle.0 version.0 primary.0 members (table.get k.copies handle.0) h
  sized_after k (log.CopyStart file index source copy copy_version) due h =
      put_sized k (after_record k (log.CopyStart file index source copy copy_version)) copy.0 (copied_row k.table source.0 copy_version.0) due.0 (le-max_left k.next_handle (copy.0 + 1)) refl h
  sized_after k (log.Counters next_file next_handle epoch) due h = absurd due
  sized_after k (log.FileItem path file shape handles) due h = absurd due
  sized_after k (log.ChunkItem handle granted issued primary members) due h = absurd due
  sized_after k other due h = record { next = h.next; rows = h.rows }

  less_sized : (k : Logged) (handles : List ℕ) → AreSized k → AreSized (copies_given_up k handles)
  less_sized k handles h = kept_sized k (copies_given_up k handles) (omega arith) (removed_keeps (rows_of k) handles) h

  ended_sized : (c : Core) (handle moment : ℕ) → AreSized c.logged → AreSized (core_ended c handle moment).logged
  ended_sized c handle moment h =
      kept_sized c.logged (core_ended c handle moment).logged (omega arith) (changed_keeps (rows_of c.logged) handle (λ row. record row { lease_end = moment }) (λ row. refl)) h

  -- what a Grant tells
  abbrev pub TellsSize : Body → Type 0
  TellsSize (grant_body order handle version end_moment chunk members) = IsSizeIn handle.0 chunk
  TellsSize other = Unit {0}

  nothing_tells : (b : Body) → GrantsNothing b → TellsSize b
  nothing_tells (grant_body order handle version end_moment chunk members) none = absurd none
  nothing_tells other none = tt

  abbrev pub AreTellingSizes : List Message → Type 0
  AreTellingSizes ms = AllOf (λ m. TellsSize m.body) ms

  -- a step so far
  record IsSizing (c : Core) : Type 0 where
    sized : AreSized c.logged
    said : AreTellingSizes c.sent

  one_more : (c : Core) (m : Message) → TellsSize m.body → AreTellingSizes c.sent → AreTellingSizes (c.sent ++ m ∷ [])
  one_more c m tells said = all_joined (λ x. TellsSize x.body) c.sent (m ∷ []) said (tells, tt)

  sizing_keeps : (start : LogDisk) → Keeps (Unit {0}) Nothing NoneEnded (λ c. IsRowing start c × IsSizing c)
  sizing_keeps start =
      let base : Keeps (Unit {0}) Nothing NoneEnded (IsRowing start) = naming_keeps IsFoundRows IsRowedLog rows_kept start NoneEnded in
      record {
        sound = λ asks c h. base.sound asks c h.0;
        tells = λ c receiver b quiet h. (base.tells c receiver b quiet h.0, record { sized = h.1.sized; said = one_more c _ (nothing_tells b (quiet_nothing b quiet)) h.1.said });
        orders = λ c server b is plain h. (base.orders c server b is plain h.0, record { sized = h.1.sized; said = one_more c _ (nothing_tells (b _) (plain_nothing (b _) (plain _))) h.1.said });
        revokes = λ c handle row is h. (base.revokes c handle row is h.0, record { sized = h.1.sized; said = one_more c _ tt h.1.said });
        grants = λ c handle version until primary members told due names from idle h.
            let entry : Record = grant_record handle version primary members in
            let size = granted_size c.logged (state_of c.disk) handle version primary members due.0 h.0.tied.base due.1 in (
              base.grants c handle version until primary members told due names from idle h.0,
              record {
                sized = ended_sized (core_appended c entry) handle until (sized_after c.logged entry due h.1.sized);
                said = one_more c _ (subst (λ (chunk : ℕ). IsSizeIn handle chunk) size (h.1.sized.rows handle due.0 due.1)) h.1.said;
              },
            );
        appends = λ c r due plain names h. (base.appends c r due plain names h.0, record { sized = sized_after c.logged r due h.1.sized; said = h.1.said });
        checkpoint = λ c tree h. (base.checkpoint c tree h.0, record { sized = less_sized c.logged (table.keys c.logged.copies) h.1.sized; said = h.1.said });
        less = λ c handles copied h. (base.less c handles copied h.0, record { sized = less_sized c.logged handles h.1.sized; said = h.1.said });
        ends = λ c handle row is word h. (base.ends c handle row is word h.0, record { sized = ended_sized c handle 0 h.1.sized; said = h.1.said });
        extends = λ c handle until row is lasts later from h. (
          base.extends c handle until row is lasts later from h.0,
          record { sized = ended_sized c handle until h.1.sized; said = one_more c _ tt h.1.said },
        );
      }

  ends_sized : (m : MasterState) (d : MasterDoing) (choice : Choice) (e : Ending) → AreTellingSizes d.sent → AreTellingSizes (master_ends m d choice e).out.sent
  ends_sized m d choice Goes h = all_in_order (λ x. TellsSize x.body) choice.order d.sent h
  ends_sized m d choice Lost h = tt
  ends_sized m d choice (Stops made) h = tt

module _ (config : Config) (servers clients : ℕ) (w : WorldState) (r : IsReached config servers clients w) (up : IsTrue w.master.up) where
  abbrev now : Logged
  now = w.master.logged

  logged : IsLogged IsFoundRows IsRowedLog rows_kept w.master
  logged = (logged_here IsFoundRows IsRowedLog rows_kept config servers clients w r).1

  known : IsUpToLog IsFoundRows IsRowedLog rows_kept w.master
  known = logged.up up

  shapes : HaveFilesShapes now
  shapes = (chunks_have_their_files_shapes config servers clients w r up).0

  pub goes_sized : (moment : ℕ) (i : NodeInput) (refused : List Bool) → AreSized now (master_goes w.master moment i refused).master.logged × AreTellingSizes now (master_goes w.master moment i refused).sent
  goes_sized moment i refused =
      let m : MasterState = w.master in
      let end =
      goes_named NoneEnded (λ c. IsRowing m.disk c × IsSizing now c) (sizing_keeps now m.disk) m moment i refused (no_input i) known.bound known.names known.ready
      (record { none = known.idle; disk = refl; same = known.same; tied = known.tied; stops = logged.found [] }, record { sized = same_sized now; said = tt }) in
      (((end.0).1).sized, ((end.0).1).said)

  pub step_sized : (moment : ℕ) (i : NodeInput) (choice : Choice) → AreTellingSizes now (master_step w.master moment i choice).out.sent
  step_sized moment i choice =
      let m : MasterState = w.master in
      let d : MasterDoing = master_goes m moment i choice.refused in
      let good : Taken MasterState → Type 0 = λ t. AreTellingSizes now t.out.sent in
      on_cond good m.up (master_bounded m i d choice) (no_step m)
      (λ _. on_cond good (may_end m i d choice.ending) (master_ends m d choice choice.ending) (no_step m) (λ _. ends_sized now m d choice choice.ending (goes_sized moment i choice.refused).1) (λ _. tt))
      (λ _. tt)

  -- a handle that stands in a file, or is a copy's, is not new

  in_file : (file index handle : ℕ) → element_at (handles_of now.table file) index ≡ Some handle → HasRow (rows_of now) handle
  in_file file index handle at = chunk_row now.table file handle known.tied.base.counted (placed_stands (handles_of now.table file) index handle at)

  of_copy : (handle : ℕ) (c : Copy) → table.get now.copies handle ≡ Some c → HasRow (rows_of now) handle
  of_copy handle c is = known.tied.base.rows handle c is

  pub not_new : (handle : ℕ) → HasRow (rows_of now) handle → now.next_handle ≤ handle → ⊥
  not_new handle has new = let low = row_below now (state_of w.master.disk) known.same known.tied handle has.0 has.1 in omega (arith, low, new)

  -- a shape that is told of a chunk is that of its files
  shape_is : (handle : ℕ) (shape : Shape) → IsShapeIn now handle shape → IsOfFiles now handle (λ s. shape ≡ s)
  shape_is handle shape (inl row) =
      record {
        files = λ file index at. sym row.2 ∙ shapes.chunks file index handle row.0 at row.1;
        copies = λ c is. sym row.2 ∙ shapes.copies handle c row.0 is row.1;
      }
  shape_is handle shape (inr new) =
      record { files = λ file index at. absurd (not_new handle (in_file file index handle at) new.0); copies = λ c is. absurd (not_new handle (of_copy handle c is) new.0) }

  size_is : (handle chunk : ℕ) → IsSizeIn now handle chunk → IsOfFiles now handle (λ s. chunk ≡ s.chunk)
  size_is handle chunk (inl row) =
      record {
        files = λ file index at. sym row.2 ∙ ap (λ (s : Shape). s.chunk) (shapes.chunks file index handle row.0 at row.1);
        copies = λ c is. sym row.2 ∙ ap (λ (s : Shape). s.chunk) (shapes.copies handle c row.0 is row.1);
      }
  size_is handle chunk (inr new) =
      record { files = λ file index at. absurd (not_new handle (in_file file index handle at) new); copies = λ c is. absurd (not_new handle (of_copy handle c is) new) }

pub grants_tell_their_files_sizes : GrantsTellTheirFilesSizes
grants_tell_their_files_sizes config servers clients w r up moment i choice place x at order handle version end_moment chunk members is =
    size_is config servers clients w r up handle.0 chunk
    (subst (λ (b : Body). TellsSize w.master.logged b) is
    (all_at (λ (y : Message). TellsSize w.master.logged y.body) (master_step w.master moment i choice).out.sent place x (step_sized config servers clients w r up moment i choice) at))

pub told_shapes_are_their_files : ToldShapesAreTheirFiles
told_shapes_are_their_files config servers clients w r up moment i choice place x at number told is =
    shape_is config servers clients w r up told.handle.0 told.shape (told_shapes_are_of_their_chunks w.master moment i choice place x at number told is)
