-- A copy that a step of the master grants was under way as the step began, so that each lease of its source is over.
use Rattle.std.proofs.Common.{◌≡◌, ℕ, List, [], ◌∷◌, ◌++◌, Option, Some, None, refl, sym, ap, ◌∙◌, inl, inr}
use Rattle.std.specs.Prelude.{Bool, IsTrue}
use Rattle.std.specs.FinMap as table
use Rattle.gfs_types.specs.declared.config.Config.{Config}
use Rattle.messages.specs.declared.event.NodeInput.{NodeInput}
use Rattle.log_records.specs.declared.record.Record.{Record}
use Rattle.log_records.specs.declared.record.Record.TheVariants as log
use Rattle.chunk_table.specs.ChunkTable.{ChunkRow, chunk_of}
use Rattle.protocol.specs.Tables.{Table}
use Rattle.protocol.specs.Logged.{Logged, Copy, LogDisk, LogChange, AppendRecord, WriteCheckpoint, first_logged, copies_for_file, after_record, log_changed, log_changed_by_all, copies_given_up}
use Rattle.protocol.specs.MasterStep.{master_goes}
use Rattle.protocol.specs.World.{WorldState, IsReached}
use Rattle.laws_base.proofs.Steps.{none_some, kept_cases, removed_cases}
use Rattle.laws_base.proofs.Entries.{AllOf}
use Rattle.laws_base.proofs.FilesLogged.{without_copy, copies_after, copies_are_after}
use Rattle.laws_base.proofs.MasterMoves.{Core, core_changed, core_appended, IsNoGrantRecord, Keeps, Nothing, NoneEnded, grant_record}
use Rattle.laws_base.proofs.MasterSteps.{no_input, goes_named}
use Rattle.laws_base.proofs.NamesReached.{IsUpToLog, naming_keeps}
use Rattle.laws_base.proofs.OrderNumbers.{state_of}
use Rattle.laws_base.proofs.RevokesNumbered.{IsRowing}
use Rattle.laws_base.proofs.RowsLogged.{IsFoundRows, IsRowedLog}
use Rattle.laws_base.proofs.RowsKept.{rows_kept}
use Rattle.laws_base.proofs.SentReached.{sent_reached}
use Rattle.laws_base.proofs.WaitsKept.{IsOfWaits, waits_kept}
use Rattle.laws_versions.proofs.AskedSteps.{IsNoGrant}
use Rattle.laws_versions.proofs.CopiedSources.{IsNoStartRecord, IsNoStart, asked_or_not, unasked_step, asked_step, free_reached, copied_chunks_have_no_lease}
use Rattle.laws_machine.specs.Rounds.{IsSourceOver, AreSourcesOver, SourcesOfGrantedCopiesHaveNoLease}

-- a record that starts no copy leaves no more of them
fewer_copies : (l : Logged) (r : Record) → IsNoStartRecord r → (q : ℕ) (x : Copy) → table.get (after_record l r).copies q ≡ Some x → table.get l.copies q ≡ Some x
fewer_copies l r none q x is = by_record r none (ap (λ (t : Table Copy). table.get t q) (sym (copies_are_after l r)) ∙ is)
  where
    without : (handle : ℕ) (o : Option Copy) → table.get (without_copy l.copies handle o) q ≡ Some x → table.get l.copies q ≡ Some x
    without handle None at = at
    without handle (Some c) at = kept_cases l.copies handle q x at

    by_record : (r : Record) → IsNoStartRecord r → table.get (copies_after l.copies r) q ≡ Some x → table.get l.copies q ≡ Some x
    by_record (log.Expired file) none at = removed_cases l.copies (copies_for_file (record first_logged { copies = l.copies }) file.0) q x at
    by_record (log.Grant handle version primary members) none at = without handle.0 (table.get l.copies handle.0) at
    by_record (log.CopyStart file index handle copy copy_version) none at = absurd none
    by_record (log.Issue handle version) none at = at
    by_record other none at = at

split_last : (P : LogChange → Type 0) (xs : List LogChange) (x : LogChange) → AllOf P (xs ++ x ∷ []) → AllOf P xs × P x
split_last P [] x all = (tt, all.0)
split_last P (y ∷ ys) x all = let rest = split_last P ys x all.1 in ((all.0, rest.0), rest.1)

module _ (config : Config) (servers clients : ℕ) (w : WorldState) (r : IsReached config servers clients w) (clocks : IsTrue w.observer.are_clocks_kept) (up : IsTrue w.master.up) where
  -- a granted copy was under way as the step began
  abbrev IsKnown : Logged → Record → Type 0
  IsKnown l (log.Grant handle version primary members) = (x : Copy) → table.get l.copies handle.0 ≡ Some x → table.get w.master.logged.copies handle.0 ≡ Some x
  IsKnown l other = Unit {0}

  abbrev IsChangeKnown : LogDisk → LogChange → Type 0
  IsChangeKnown d (AppendRecord entry) = IsKnown (state_of d) entry
  IsChangeKnown d (WriteCheckpoint items) = Unit {0}

  abbrev AreKnown : LogDisk → List LogChange → Type 0
  AreKnown d [] = Unit {0}
  AreKnown d (x ∷ rest) = IsChangeKnown d x × AreKnown (log_changed d x) rest

  known_push : (d : LogDisk) (xs : List LogChange) (x : LogChange) → AreKnown d xs → IsChangeKnown (log_changed_by_all d xs) x → AreKnown d (xs ++ x ∷ [])
  known_push d [] x h last = (last, tt)
  known_push d (y ∷ ys) x h last = (h.0, known_push (log_changed d y) ys x h.1 last)

  plain_known : (l : Logged) (entry : Record) → IsNoGrantRecord entry → IsKnown l entry
  plain_known l (log.Grant handle version primary members) plain = absurd plain
  plain_known l other plain = tt

  record IsFine (c : Core) : Type 0 where
    copies : AllOf IsNoStart c.changes → (q : ℕ) (x : Copy) → table.get c.logged.copies q ≡ Some x → table.get w.master.logged.copies q ≡ Some x
    known : AllOf IsNoStart c.changes → AreKnown w.master.disk c.changes

  changed : (c : Core) (x : LogChange) (l : Logged) → IsFine c → (IsNoStart x → (q : ℕ) (y : Copy) → table.get l.copies q ≡ Some y → table.get c.logged.copies q ≡ Some y)
      → (AllOf IsNoStart c.changes → IsChangeKnown (log_changed_by_all w.master.disk c.changes) x) → IsFine (record (core_changed c x) { logged = l })
  changed c x l h fewer last = record {
    copies = λ all q y is. let parts = split_last IsNoStart c.changes x all in h.copies parts.0 q y (fewer parts.1 q y is);
    known = λ all. let parts = split_last IsNoStart c.changes x all in known_push w.master.disk c.changes x (h.known parts.0) (last parts.0);
  }

  appended : (c : Core) (entry : Record) → IsFine c → (AllOf IsNoStart c.changes → IsKnown (state_of (log_changed_by_all w.master.disk c.changes)) entry) → IsFine (core_appended c entry)
  appended c entry h last = changed c (AppendRecord entry) (after_record c.logged entry) h (λ none q y is. fewer_copies c.logged entry none q y is) last

  same_copies : (c : Core) (l : Logged) → IsFine c → ((q : ℕ) (x : Copy) → table.get l.copies q ≡ Some x → table.get c.logged.copies q ≡ Some x) → IsFine (record c { logged = l })
  same_copies c l h fewer = record { copies = λ all q x is. h.copies all q x (fewer q x is); known = h.known }

  -- the log has no copy of a chunk with a row that the state hasn't
  granted_known : (c : Core) (handle version primary : ℕ) (members : List ℕ) → IsRowing w.master.disk c → (row : ChunkRow) → chunk_of c.logged.table handle ≡ Some row → IsFine c
      → AllOf IsNoStart c.changes → IsKnown (state_of (log_changed_by_all w.master.disk c.changes)) (grant_record handle version primary members)
  granted_known c handle version primary members n row there h all x is = by_copy (table.get c.logged.copies handle) refl
    where
      logged : table.get (state_of c.disk).copies handle ≡ Some x
      logged = ap (λ (d : LogDisk). table.get (state_of d).copies handle) (sym n.disk) ∙ is

      by_copy : (o : Option Copy) → table.get c.logged.copies handle ≡ o → table.get w.master.logged.copies handle ≡ Some x
      by_copy None none = none_some row (sym (n.tied.base.base.alone handle x logged none) ∙ there)
      by_copy (Some y) some = h.copies all handle x (some ∙ (sym (n.tied.base.base.among handle y some) ∙ logged))

  fine_keeps : Keeps (Unit {0}) Nothing NoneEnded (λ c. IsRowing w.master.disk c × IsFine c)
  fine_keeps =
      let base : Keeps (Unit {0}) Nothing NoneEnded (IsRowing w.master.disk) = naming_keeps IsFoundRows IsRowedLog rows_kept w.master.disk NoneEnded in
      record {
        sound = λ asks c h. base.sound asks c h.0;
        tells = λ c receiver b quiet h. (base.tells c receiver b quiet h.0, record { copies = h.1.copies; known = h.1.known });
        orders = λ c server b is plain h. (base.orders c server b is plain h.0, record { copies = h.1.copies; known = h.1.known });
        revokes = λ c handle row is h. (base.revokes c handle row is h.0, record { copies = h.1.copies; known = h.1.known });
        grants = λ c handle version until primary members told due names from idle h.
            let entry : Record = grant_record handle version primary members in
            let one = appended c entry h.1 (granted_known c handle version primary members h.0 due.0 due.1 h.1) in
            (base.grants c handle version until primary members told due names from idle h.0, record { copies = one.copies; known = one.known });
        appends = λ c entry due plain names h. (base.appends c entry due plain names h.0, appended c entry h.1 (λ all. plain_known (state_of (log_changed_by_all w.master.disk c.changes)) entry plain));
        checkpoint = λ c tree h. (base.checkpoint c tree h.0, changed c _ _ h.1 (λ none q y is. removed_cases c.logged.copies (table.keys c.logged.copies) q y is) (λ all. tt));
        less = λ c handles copied h. (base.less c handles copied h.0, same_copies c (copies_given_up c.logged handles) h.1 (λ q x is. removed_cases c.logged.copies handles q x is));
        ends = λ c handle row is word h. (base.ends c handle row is word h.0, record { copies = h.1.copies; known = h.1.known });
        extends = λ c handle until row is lasts later from h. (base.extends c handle until row is lasts later from h.0, record { copies = h.1.copies; known = h.1.known });
      }

  step_known : (moment : ℕ) (i : NodeInput) (refused : List Bool) → AllOf IsNoStart (master_goes w.master moment i refused).changes → AreKnown w.master.disk (master_goes w.master moment i refused).changes
  step_known moment i refused all =
      let base : IsOfWaits w.sent w.master = sent_reached IsOfWaits waits_kept config servers clients w r in
      let u : IsUpToLog IsFoundRows IsRowedLog rows_kept w.master = base.base.logged.up up in
      let end =
      goes_named NoneEnded (λ c. IsRowing w.master.disk c × IsFine c) fine_keeps w.master moment i refused (no_input i) u.bound u.names u.ready
      (record { none = u.idle; disk = refl; same = u.same; tied = u.tied; stops = base.base.logged.found [] }, record { copies = λ none q x is. is; known = λ none. tt }) in
      ((end.0).1).known all

  -- as the law says it

  source_over : (l : Logged) (entry : Record) → IsKnown l entry → IsSourceOver w l entry
  source_over l (log.Grant handle version primary members) known = λ c is. (copied_chunks_have_no_lease config servers clients w r clocks up handle.0 c (known c is)).1
  source_over l other known = tt

  sources_over : (d : LogDisk) (xs : List LogChange) → AreKnown d xs → AreSourcesOver w d xs
  sources_over d [] known = tt
  sources_over d (AppendRecord entry ∷ rest) known = (source_over (state_of d) entry known.0, sources_over (log_changed d (AppendRecord entry)) rest known.1)
  sources_over d (WriteCheckpoint items ∷ rest) known = sources_over (log_changed d (WriteCheckpoint items)) rest known.1

  none_granted : (l : Logged) (entry : Record) → IsNoGrantRecord entry → IsSourceOver w l entry
  none_granted l (log.Grant handle version primary members) none = absurd none
  none_granted l other none = tt

  no_sources : (d : LogDisk) (xs : List LogChange) → AllOf IsNoGrant xs → AreSourcesOver w d xs
  no_sources d [] all = tt
  no_sources d (AppendRecord entry ∷ rest) all = (none_granted (state_of d) entry all.0, no_sources (log_changed d (AppendRecord entry)) rest all.1)
  no_sources d (WriteCheckpoint items ∷ rest) all = no_sources (log_changed d (WriteCheckpoint items)) rest all.1

pub sources_of_granted_copies_have_no_lease : SourcesOfGrantedCopiesHaveNoLease
sources_of_granted_copies_have_no_lease config servers clients w r clocks up moment i refused = elim (asked_or_not i) [
  | inl none ↦
      sources_over config servers clients w r clocks up w.master.disk (master_goes w.master moment i refused).changes
      (step_known config servers clients w r clocks up moment i refused (unasked_step config servers clients w r clocks up (free_reached config servers clients w r clocks up) moment i refused none).changes)
  | inr ask ↦
      no_sources config servers clients w r clocks up w.master.disk (master_goes w.master moment i refused).changes
      (asked_step config servers clients w r clocks up (free_reached config servers clients w r clocks up) moment i refused ask).changes
]
