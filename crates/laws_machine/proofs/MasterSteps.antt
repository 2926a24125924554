-- Each record of the log is followed, and so are all changes of a step.
use Rattle.std.proofs.Common.{◌≡◌, ℕ, suc, ◌+◌, ◌≤◌, max, List, [], ◌∷◌, ◌++◌, Some, refl, sym, ap, subst, ◌∙◌, inl, inr, arith}
use Rattle.std.specs.Prelude.{IsFalse}
use Rattle.std.proofs.Math.Nat.{le-max_right}
use Rattle.std.proofs.lemmas.Bool.{true≢false}
use Rattle.gfs_types.specs.declared.call.Call.{Call}
use Rattle.gfs_types.specs.declared.call.Call.TheVariants as call
use Rattle.log_records.specs.declared.record.Record.{Record}
use Rattle.log_records.specs.declared.record.Record.TheVariants as log
use Rattle.chunk_table.specs.ChunkTable.{add_file}
use Rattle.relaxed_file.specs.Machine.{Machine, Outcome}
use Rattle.relaxed_file.specs.NameStep.{is_refused, performed}
use Rattle.relaxed_file.specs.Run.{Action, Step, FindBusy, FindFull, Lock, Expire, Allows, IsLawful, after, after_all, LeadsTo}
use Rattle.relaxed_file.proofs.Tables.{from_some}
use Rattle.protocol.specs.Tables.{Table}
use Rattle.protocol.specs.Sending.{client_id, file_id, moment_of}
use Rattle.protocol.specs.Logged.{Logged, LogDisk, LogChange, AppendRecord, WriteCheckpoint, after_record, log_changed}
use Rattle.protocol.specs.Observer.{Placed}
use Rattle.laws_base.proofs.Steps.{none_some}
use Rattle.laws_base.proofs.OrderNumbers.{state-appended}
use Rattle.laws_names.specs.Names.{HasNamesOf, record_of}
use Rattle.laws_names.specs.Alike.{Requests}
use Rattle.laws_names.specs.NameTrails.{log_read, HasCall, IsActionOf, IsQuiet, AreQuiet, IsChunkRecord, IsChangeOf, NameTrail}
use Rattle.laws_names.proofs.NameSteps.{stepped_at, look_effect, either}
use Rattle.laws_machine.specs.ChunksAlike.{ChunkSides, NoneEnds}
use Rattle.laws_machine.proofs.Closings.{after_both, lawful_both}
use Rattle.laws_machine.specs.MasterSteps.{IsWhole, Comes, EndsAt, IsDueAt, recorded, GoesAt, AreGoneBy, RecordsAreTaken, HaveSameFiles, EndsAtChange, GoesAtChange, IsChangeDue, HasOpenedAt, HasFilesOf, AreChangesDue, WholeTrail, ChangesAreTaken, IsCopy}
use Rattle.laws_machine.proofs.GoneHandles.{goes_at, none_goes}
use Rattle.laws_machine.proofs.MasterKept.{copies_may_come_and_go}
use Rattle.laws_machine.proofs.MasterNames.{more_end, whole_call, ready_for, done_files, refused_files, plainly_taken, refused_taken, created, quiet_runs_are_taken}
use Rattle.laws_machine.proofs.MasterSnapshots.{snapshot_taken_whole}
use Rattle.laws_machine.proofs.MasterChunks.{Taken, epoch_taken, issue_taken, start_taken, add_taken, grant_taken, expired_taken}
use Rattle.gfs_types.specs.Shapes.{usual_shape, shape_or}
use Rattle.protocol.specs.MasterNames.{told_shape}

module _ (k : ChunkSides) (n : Machine) (h : IsWhole k n) (named : HasNamesOf k.log n) where
  chunk_taken : (r : Record) → IsChunkRecord r → IsDueAt k r → Taken k n r
  chunk_taken (log.Epoch epoch) is due = epoch_taken k n h epoch
  chunk_taken (log.AddChunk file handle) is due = add_taken k n h file handle due
  chunk_taken (log.Issue handle version) is due = issue_taken k n h handle version
  chunk_taken (log.Grant handle version primary members) is due = grant_taken k n h handle version primary members due
  chunk_taken (log.CopyStart file index handle copy version) is due = start_taken k n h file index handle copy version due
  chunk_taken other is due = absurd is

  -- the record of a call that takes effect
  module _ (client moment : ℕ) (outcome : Outcome) (plain : IsFalse (is_refused outcome)) (may : Allows n (Step client moment outcome)) where
    abbrev action : Action
    action = Step client moment outcome

    abbrev IsTaken : Record → Type 0
    IsTaken r = IsDueAt k r → Taken k (after n action) r

    call_taken : (number : ℕ) (c : Call) (l : Logged) (r : Record) → HasCall n client c → l.next_file ≡ suc n.file_count → record_of n.config l client number moment c ≡ Some r → IsTaken r
    call_taken number (call.Mkdir p) l r has next is =
        let its = whole_call k n client (call.Mkdir p) h has in
        subst IsTaken (from_some is) (λ due. (
          after k.machine action,
          more_end NoneEnds _ k _ (after n action) (λ q none. absurd none)
              (plainly_taken k n h (after_record k.log (log.Mkdir (client_id client) number p)) action refl refl may (ready_for k.machine client moment outcome (call.Mkdir p) its (λ _. tt)) (done_files k.machine client moment outcome (call.Mkdir p) its plain) refl (omega arith) (omega arith)),
          tt,
        ))
    call_taken number (call.Rmdir p) l r has next is =
        let its = whole_call k n client (call.Rmdir p) h has in
        subst IsTaken (from_some is) (λ due. (
          after k.machine action,
          more_end NoneEnds _ k _ (after n action) (λ q none. absurd none)
              (plainly_taken k n h (after_record k.log (log.Rmdir (client_id client) number p)) action refl refl may (ready_for k.machine client moment outcome (call.Rmdir p) its (λ _. tt)) (done_files k.machine client moment outcome (call.Rmdir p) its plain) refl (omega arith) (omega arith)),
          tt,
        ))
    call_taken number (call.Delete p) l r has next is =
        let its = whole_call k n client (call.Delete p) h has in
        subst IsTaken (from_some is) (λ due. (
          after k.machine action,
          more_end NoneEnds _ k _ (after n action) (λ q none. absurd none)
              (plainly_taken k n h (after_record k.log (log.Delete (client_id client) number (moment_of moment) p)) action refl refl may (ready_for k.machine client moment outcome (call.Delete p) its (λ _. tt)) (done_files k.machine client moment outcome (call.Delete p) its plain) refl (omega arith) (omega arith)),
          tt,
        ))
    call_taken number (call.Rename p q) l r has next is =
        let its = whole_call k n client (call.Rename p q) h has in
        subst IsTaken (from_some is) (λ due. (
          after k.machine action,
          more_end NoneEnds _ k _ (after n action) (λ x none. absurd none)
              (plainly_taken k n h (after_record k.log (log.Rename (client_id client) number p q)) action refl refl may (ready_for k.machine client moment outcome (call.Rename p q) its (λ _. tt)) (done_files k.machine client moment outcome (call.Rename p q) its plain) refl (omega arith) (omega arith)),
          tt,
        ))
    call_taken number (call.Create p shape) l r has next is =
        let its = whole_call k n client (call.Create p shape) h has in
        let same : l.next_file ≡ k.log.next_file = next ∙ sym named.1 in
        let more : l.next_file + 1 ≤ max k.log.next_file (l.next_file + 1) = le-max_right k.log.next_file (l.next_file + 1) in
        subst IsTaken (from_some is) (λ due. (
          after k.machine action,
          more_end NoneEnds _ k _ (after n action) (λ q none. absurd none)
              (created k n h (shape_or (usual_shape n.config) shape) (shape_or (usual_shape k.machine.config) shape) (after_record k.log (log.Create (client_id client) number (file_id l.next_file) (told_shape n.config shape) p)) action refl refl may (ready_for k.machine client moment outcome (call.Create p shape) its (λ _. tt)) named
              (done_files k.machine client moment outcome (call.Create p shape) its plain) (ap (λ (f : ℕ). add_file k.log.table f (shape_or (usual_shape n.config) shape)) same) (omega (arith, same, more)) (omega arith)),
          tt,
        ))
    call_taken number (call.Snapshot p q) l r has next is = subst IsTaken (from_some is) (λ due. snapshot_taken_whole k n h named client number moment p q outcome has plain may due)
    call_taken number other l r has next is = none_some r is

  -- a record of names
  name_taken : (action : Action) (r : Record) → Allows n action → IsActionOf n r action → IsDueAt k r → Taken k (after n action) r
  name_taken (Step client moment outcome) r may (inl done) due =
      let of = done.1 in
      call_taken client moment outcome done.0 may of.0 of.1 of.2 r of.3 of.4 of.5 due
  name_taken (Step client moment outcome) r may (inr refused) due =
      let has : HasCall n client (may.0).asked.call = (may.0, may.1, refl) in
      let its = whole_call k n client (may.0).asked.call h has in
      refused_taken k n h (Step client moment outcome) client r refl refl may (ready_for k.machine client moment outcome (may.0).asked.call its (λ plain. absurd (true≢false (sym refused.0 ∙ plain))))
      (refused_files k.machine client moment outcome (may.0).asked.call its refused.0) refused.1
  name_taken (FindBusy client holder) r may refusal due = refused_taken k n h (FindBusy client holder) client r refl refl may tt refl refusal
  name_taken (FindFull client) r may refusal due = refused_taken k n h (FindFull client) client r refl refl may tt refl refusal
  name_taken (Expire file moment) r may is due = subst (λ (x : Record). Taken k (after n (Expire file moment)) x) (sym is) (expired_taken k n h named file moment may (subst (λ (x : Record). IsDueAt k x) is due))
  name_taken other r may is due = absurd is

pub records_are_taken : RecordsAreTaken
records_are_taken k n later r h named (inl about) due = subst (λ (x : Machine). Taken k x r) about.1 (chunk_taken k n h named r about.0 due)
records_are_taken k n later r h named (inr done) due = subst (λ (x : Machine). Taken k x r) done.3 (name_taken k n h named done.0 r done.1 done.2 due)

-- quiet actions leave the names

quiet_names : (actions : List Action) (l : Logged) (n later : Machine) → AreQuiet n actions later → HasNamesOf l n → HasNamesOf l later
quiet_names [] l n later same named = subst (λ (x : Machine). HasNamesOf l x) same named
quiet_names (action ∷ rest) l n later quiet named = quiet_names rest l (after n action) later quiet.2 (by_action action quiet.0 quiet.1)
  where
    by_action : (a : Action) → Allows n a → IsQuiet n a → HasNamesOf l (after n a)
    by_action (Lock client) may is = named
    by_action (FindBusy client holder) may is = named
    by_action (Step client moment outcome) may is =
        let c : Call = is.0 in
        let has = is.1 in
        let none : performed n c moment ≡ n = (look_effect n c is.2 moment).0 in
        stepped_at (λ (x : Machine). HasNamesOf l x) n client moment outcome has.0 c has.1 has.2
        (subst (λ (x : Machine). HasNamesOf l x) (sym (either (is_refused outcome) n (performed n c moment) none)) named)
    by_action other may is = absurd is

quiet_files : (actions : List Action) (l : Logged) (n later : Machine) → AreQuiet n actions later → HasFilesOf l n → HasFilesOf l later
quiet_files [] l n later same has = subst (λ (x : Machine). HasFilesOf l x) same has
quiet_files (action ∷ rest) l n later quiet has = quiet_files rest l (after n action) later quiet.2 (by_action action quiet.0 quiet.1)
  where
    by_action : (a : Action) → Allows n a → IsQuiet n a → HasFilesOf l (after n a)
    by_action (Lock client) may is = has
    by_action (FindBusy client holder) may is = has
    by_action (Step client moment outcome) may is =
        let c : Call = is.0 in
        let call = is.1 in
        let none : performed n c moment ≡ n = (look_effect n c is.2 moment).0 in
        stepped_at (λ (x : Machine). HasFilesOf l x) n client moment outcome call.0 c call.1 call.2
        (subst (λ (x : Machine). HasFilesOf l x) (sym (either (is_refused outcome) n (performed n c moment) none)) has)
    by_action other may is = absurd is

-- all changes

leads_then : (first m later : Machine) (actions : List Action) → LeadsTo first m → IsLawful m actions → after_all m actions ≡ later → LeadsTo first later
leads_then first m later actions before lawful leads = (
  before.0 ++ actions,
  lawful_both first before.0 actions before.1 (subst (λ (x : Machine). IsLawful x actions) (sym before.2) lawful),
  after_both first before.0 actions ∙ ap (λ (x : Machine). after_all x actions) before.2 ∙ leads,
)

-- one change
record IsTakenChange (d : LogDisk) (k : ChunkSides) (b : Machine) (x : LogChange) : Type 0 where
  j : ChunkSides
  comes : Comes (EndsAtChange d x) k j b
  is_log : j.log ≡ log_read (log_changed d x)
  same_orders : j.orders ≡ k.orders
  goes : AreGoneBy (GoesAtChange d x) k j
  opened : HasOpenedAt j x

change_taken : (d : LogDisk) (x : LogChange) (k : ChunkSides) (a b : Machine) → k.log ≡ log_read d → IsWhole k a → HasNamesOf k.log a → IsChangeOf a b x → IsChangeDue d k x → IsTakenChange d k b x
change_taken d (AppendRecord r) k a b is h named change due =
    let taken : Taken k b r = records_are_taken k a b r h named change due in
    record {
      j = recorded k r taken.0;
      comes = subst (λ (l : Logged). Comes (EndsAt l r) k (recorded k r taken.0) b) is taken.1;
      is_log = ap (λ (l : Logged). after_record l r) is ∙ sym (state-appended d r);
      same_orders = refl;
      goes = subst (λ (l : Logged). AreGoneBy (GoesAt l r) k (recorded k r taken.0)) is (goes_at k.log k.gone r);
      opened = taken.2;
    }
change_taken d (WriteCheckpoint items) k a b is h named change due =
    let l : Logged = log_read (log_changed d (WriteCheckpoint items)) in
    let j : ChunkSides = record k { log = l } in
    let one : Comes (IsCopy l) k j a = copies_may_come_and_go k a l h (subst (λ (x : Logged). HaveSameFiles x l) (sym is) due.0) in
    record { j = j; comes = subst (λ (x : Machine). Comes NoneEnds k j x) change (more_end (IsCopy l) NoneEnds k j a due.1 one); is_log = refl; same_orders = refl; goes = none_goes (GoesAtChange d (WriteCheckpoint items)) k; opened = tt }

module _ (requests : Requests) (first_names : Machine) (start : LogDisk) (later first : Machine) (orders : Table (List Placed)) where
  all_taken : (changes : List LogChange) (d : LogDisk) (k : ChunkSides) (n : Machine) → LeadsTo first k.machine → k.orders ≡ orders → IsWhole k n → k.log ≡ log_read d → HasNamesOf k.log n → HasFilesOf k.log n → NameTrail requests first_names start d n changes later
      → AreChangesDue first orders d changes → WholeTrail requests first_names start d k changes later
  all_taken [] d k n led same_orders h is named has trail due = quiet_runs_are_taken k n later h trail
  all_taken (x ∷ rest) d k n led same_orders h is named has trail due =
      let a : Machine = trail.0 in
      let b : Machine = trail.1 in
      let quiet = quiet_runs_are_taken k n a h trail.2 in
      let k1 : ChunkSides = record k { machine = quiet.0 } in
      let led1 : LeadsTo first k1.machine = leads_then first k.machine k1.machine (quiet.1).actions led (quiet.1).lawful (quiet.1).leads in
      let named1 : HasNamesOf k1.log a = quiet_names (trail.2).0 k.log n a (trail.2).1 named in
      let taken : IsTakenChange d k1 b x = change_taken d x k1 a b is (quiet.1).whole named1 trail.3 (due.0 k1 a led1 is same_orders (quiet.1).whole (quiet_files (trail.2).0 k.log n a (trail.2).1 has)) in
      let j : ChunkSides = taken.j in
      let named2 : HasNamesOf j.log b = subst (λ (l : Logged). HasNamesOf l b) (sym taken.is_log) (((trail.4).alike).names, ((trail.4).alike).next) in
      let has2 : HasFilesOf j.log b = subst (λ (l : Logged). HasFilesOf l b) (sym taken.is_log) ((trail.4).alike).files in
      let led2 : LeadsTo first j.machine = leads_then first k1.machine j.machine (taken.comes).actions led1 (taken.comes).lawful (taken.comes).leads in
      (j, quiet.0, a, b, record { quiet = quiet.1; comes = taken.comes; log = taken.is_log; orders = taken.same_orders; gone = taken.goes; opened = taken.opened; beside = trail.4 }, all_taken rest (log_changed d x) j b led2 (taken.same_orders ∙ same_orders) (taken.comes).whole taken.is_log named2 has2 trail.5 due.1)

pub changes_are_taken : ChangesAreTaken
changes_are_taken requests first start d changes k n later h is named has trail due = all_taken requests first start later k.machine k.orders changes d k n ([], tt, refl) refl h is named has trail due
