-- Each change that a step of the master makes of its log is due: what the state and its log say of each other, and how often chunks stand that are attempted.
use Rattle.std.proofs.Common.{◌≡◌, ◌⊎◌, ℕ, zero, suc, ◌≤◌, ◌<◌, true, List, [], ◌∷◌, ◌++◌, Option, Some, None, is_some, refl, sym, ap, subst, ◌∙◌, inl, inr, arith}
use Rattle.std.specs.Prelude.{option_map, IsTrue}
use Rattle.std.specs.FinMap as table
use Rattle.std.proofs.lemmas.Bool.{true≢false}
use Rattle.gfs_types.specs.declared.config.Config.{Config}
use Rattle.log_records.specs.declared.record.Record.{Record}
use Rattle.log_records.specs.declared.record.Record.TheVariants as log
use Rattle.chunk_table.specs.ChunkTable.{ChunkRow, ChunkTable, file_of, chunk_of, grant}
use Rattle.relaxed_file.specs.Machine.{new_machine}
use Rattle.protocol.specs.Tables.{element_at}
use Rattle.protocol.specs.Logged.{Logged, Copy, LogDisk, LogChange, AppendRecord, WriteCheckpoint, log_changed, log_changed_by_all, checkpoint_of, all_copies_given_up}
use Rattle.protocol.specs.Master.{MasterState, VersionAttempt}
use Rattle.protocol.specs.World.{WorldState, IsReached}
use Rattle.laws_base.specs.Laws.{HasAllReferences, times_in}
use Rattle.laws_base.proofs.Steps.{none_some, same_some, same_or_not, put_cases, kept_cases, removed_cases, gone_there}
use Rattle.laws_base.proofs.CopiesUnderWay.{no_copies}
use Rattle.laws_base.proofs.ChunkRows.{rows_of}
use Rattle.laws_base.proofs.Owners.{chunks_at, times_at_least, placed_stands}
use Rattle.laws_base.proofs.FilesNamed.{Files}
use Rattle.laws_base.proofs.FilesLogged.{same_copy, checkpoint_no_copies}
use Rattle.laws_base.proofs.OneName.{HasOneName}
use Rattle.laws_base.proofs.LoggedParts.{Parts}
use Rattle.laws_base.proofs.CountsLogged.{IsFoundCounts, fresh}
use Rattle.laws_base.proofs.RowsFit.{same_row}
use Rattle.laws_base.proofs.RowsSame.{IsOwned}
use Rattle.laws_base.proofs.RowsLogged.{IsFoundRows, IsRowedLog}
use Rattle.laws_base.proofs.RowsKept.{rows_kept}
use Rattle.laws_base.proofs.NamesReached.{without_end, IsUpToLog, logged_here}
use Rattle.laws_base.proofs.NamesLogged.{references_are_counted}
use Rattle.laws_base.proofs.OrderNumbers.{state_of}
use Rattle.laws_base.proofs.MasterMoves.{Core, grant_record, IsDue, IsNoGrantRecord, NoneEnded, removed_other}
use Rattle.laws_base.proofs.MasterActs.{IsRowing, rowing_keeps, core_checkpointed, Waits, Acts}
use Rattle.laws_base.proofs.Awaited.{Attempts}
use Rattle.laws_base.proofs.AwaitedRecords.{IsBeside}
use Rattle.laws_base.proofs.WaitsKept.{any_input, waits_here}
use Rattle.laws_base.proofs.ActsOfSteps.{goes_acts}
use Rattle.laws_versions.proofs.SharedChunks.{shared_chunks_have_no_lease}
use Rattle.laws_machine.specs.ChunksAlike.{ChunkSides, StandsAt}
use Rattle.laws_machine.proofs.OpenRounds.{chunks_of_one_owner_stand_once}
use Rattle.laws_machine.proofs.Rows.{granted_of}
use Rattle.laws_machine.specs.MasterSteps.{IsCopy, IsCopyIn, AreCopiesApart, IsReadAgain, HaveSameFiles}
use Rattle.laws_machine.specs.RecordDues.{IsOwnGrant, IsCopyGrant, IsRecordDue, IsLogDue, AreLogDues, StepsLogWhatIsDue}
use Rattle.laws_machine.proofs.MasterKept.{apart_stands}
use Rattle.laws_machine.proofs.MasterChunks.{all_references}
use Rattle.laws_machine.proofs.SoundLogs.{files_once, files_there, stands_somewhere}
use Rattle.laws_machine.proofs.RecordTimes.{swapped_times, IsNotCopied, times_after}

-- rows that are the same but for the ends of leases
pub same_granted : (o p : Option ChunkRow) → option_map without_end o ≡ option_map without_end p → granted_of o ≡ granted_of p
same_granted None None same = refl
same_granted None (Some row) same = none_some (without_end row) same
same_granted (Some row) None same = none_some (without_end row) (sym same)
same_granted (Some row) (Some other) same = ap (λ (r : ChunkRow). Some r.granted) (same_some (without_end row) (without_end other) same)

file_there : (t : ChunkTable) (file : ℕ) → is_some (file_of t file) ≡ true → (handles : List ℕ) × (file_of t file ≡ Some handles)
file_there t file has = by_file (file_of t file) refl
  where
    by_file : (o : Option (List ℕ)) → file_of t file ≡ o → (handles : List ℕ) × (file_of t file ≡ Some handles)
    by_file None is = absurd (true≢false (sym has ∙ ap is_some is))
    by_file (Some handles) is = (handles, is)

pub row_there : (t : ChunkTable) (handle : ℕ) → is_some (chunk_of t handle) ≡ true → (row : ChunkRow) × (chunk_of t handle ≡ Some row)
row_there t handle has = by_row (chunk_of t handle) refl
  where
    by_row : (o : Option ChunkRow) → chunk_of t handle ≡ o → (row : ChunkRow) × (chunk_of t handle ≡ Some row)
    by_row None is = absurd (true≢false (sym has ∙ ap is_some is))
    by_row (Some row) is = (row, is)

module _ (start : LogDisk) (c : Core) (n : IsRowing start c) where
  abbrev log_now : Logged
  log_now = state_of c.disk

  counts : IsFoundCounts log_now
  counts = n.tied.log.base

  one_name : HasOneName log_now
  one_name = counts.base.one_name

  same_files : c.logged.table.files ≡ log_now.table.files
  same_files = n.tied.base.base.files

  references : HasAllReferences log_now.table
  references = all_references log_now.table counts.counted

  apart : AreCopiesApart log_now
  apart handle copy = counts.apart handle copy.0 copy.1

  next_is : c.logged.next_handle ≡ log_now.next_handle
  next_is = ap (λ (p : Parts). p.next_handle) n.same

  -- a handle that was never used has no row
  no_row : (handle : ℕ) → handle ≡ log_now.next_handle → chunk_of log_now.table handle ≡ None
  no_row handle next = by_row (chunk_of log_now.table handle) (table.get log_now.copies handle) refl refl
    where
      by_row : (o : Option ChunkRow) (p : Option Copy) → chunk_of log_now.table handle ≡ o → table.get log_now.copies handle ≡ p → chunk_of log_now.table handle ≡ None
      by_row None p is copy = is
      by_row (Some row) (Some x) is copy = absurd (let low = counts.base.numbered handle x copy in omega (arith, low, next))
      by_row (Some row) None is copy =
          let some : 1 ≤ row.references = subst IsOwned is (n.tied.log.owned handle copy) in
          let same = references.0 handle row is in
          absurd (let low = counts.below handle (omega (arith, some, same)) in omega (arith, low, next))

  -- a new handle stands in no file
  nowhere : (handle : ℕ) → handle ≡ log_now.next_handle → times_in log_now.table.files handle ≡ 0
  nowhere handle next = fresh (times_in log_now.table.files handle) log_now.next_handle handle (counts.below handle) next

  -- what a record asks that is no grant
  record_due : (r : Record) → IsDue (Unit {0}) c.logged r → IsNoGrantRecord r → IsRecordDue log_now r
  record_due (log.Snapshot client number from to) due plain = (files_once log_now from to one_name, files_there log_now from to one_name)
  record_due (log.Expired file) due plain = (references, apart, λ handle copy. counts.rows handle copy.0 copy.1, λ path file is. one_name.named.there path file is, counts.below)
  record_due (log.AddChunk file handle) due plain =
      let there = file_there log_now.table file.0 (ap (λ (files : Files). table.contains_key files file.0) (sym same_files) ∙ due.1) in
      (due.0 ∙ next_is, no_row handle.0 (due.0 ∙ next_is), there.0, there.1)
  record_due (log.CopyStart file index handle copy version) due plain = (
    due.0 ∙ next_is,
    λ s at.
        let one = placed_stands (chunks_at log_now.table.files s.file) s.index copy.0 at in
        let low = times_at_least log_now.table.files s.file copy.0 in
        let none = nowhere copy.0 (due.0 ∙ next_is) in
        omega (arith, one, low, none),
  )
  record_due (log.Grant handle version primary members) due plain = absurd plain
  record_due other due plain = tt

  -- a grant, of a chunk that stands once at most
  module _ (handle version : ℕ) (row : ChunkRow) (is : chunk_of c.logged.table handle ≡ Some row) (higher : row.granted < version) (few : times_in c.logged.table.files handle ≤ 1) where
    same_copies : table.get c.logged.copies handle ≡ table.get log_now.copies handle
    same_copies = same_copy c.logged.copies log_now.copies (rows_of c.logged) handle row is n.tied.base.base.among n.tied.base.base.alone

    abbrev HasRowHere : Type 0
    HasRowHere = (old : ChunkRow) × (table.get (rows_of log_now) handle ≡ Some old) × (without_end old ≡ without_end row)

    here : HasRowHere
    here = same_row (table.get (rows_of log_now) handle) (table.get (rows_of c.logged) handle) row (sym (n.tied.same handle same_copies)) is

    few_here : times_in log_now.table.files handle ≤ 1
    few_here = subst (λ (files : Files). times_in files handle ≤ 1) same_files few

    own : table.get log_now.copies handle ≡ None → IsOwnGrant log_now handle version
    own none =
        let old : ChunkRow = here.0 in
        let owned : 1 ≤ old.references = subst IsOwned here.1 (n.tied.log.owned handle none) in
        let same = references.0 handle old here.1 in
        let low = few_here in
        let place = stands_somewhere log_now.table handle (omega (arith, owned, same)) in
        let k : ChunkSides = record { log = log_now; gone = λ q. None; orders = table.empty; machine = new_machine c.config } in
        let lower = ap (λ (r : ChunkRow). r.granted) here.2 in
        record {
          no_copy = none;
          place = place.0;
          stands = place.1;
          once = λ other at. chunks_of_one_owner_stand_once k handle old references here.1 (omega (arith, same, low)) other place.0 at place.1;
          row = old;
          row_is = here.1;
          higher = omega (arith, lower, higher);
        }

    of_copy : (x : Copy) → table.get log_now.copies handle ≡ Some x → IsCopyGrant log_now handle x
    of_copy x is_copy =
        let place : StandsAt log_now.table x.source (record { file = x.file; index = x.index }) =
        subst (λ (files : Files). element_at (chunks_at files x.file) x.index ≡ Some x.source) same_files (n.tied.base.placed handle x (same_copies ∙ is_copy)) in
        let one = placed_stands (chunks_at log_now.table.files x.file) x.index x.source place in
        let low = times_at_least log_now.table.files x.file x.source in
        let before = row_there log_now.table x.source (references.1 x.source (omega (arith, one, low))) in
        record {
          under_way = is_copy;
          place = place;
          unplaced = λ s at. apart_stands log_now (IsCopy log_now) apart handle s (x, is_copy) at;
          row = here.0;
          row_is = here.1;
          before = before.0;
          before_is = before.1;
        }

    grant_due : IsOwnGrant log_now handle version ⊎ ((x : Copy) × IsCopyGrant log_now handle x)
    grant_due = by_copy (table.get log_now.copies handle) refl
      where
        by_copy : (o : Option Copy) → table.get log_now.copies handle ≡ o → IsOwnGrant log_now handle version ⊎ ((x : Copy) × IsCopyGrant log_now handle x)
        by_copy None none = inl (own none)
        by_copy (Some x) some = inr (x, of_copy x some)

  -- a checkpoint says the same again
  pub checkpoint_due : IsRowing start (core_checkpointed c) → IsReadAgain log_now (state_of (core_checkpointed c).disk)
  checkpoint_due after = (same_again, λ handle copy. none_some copy.0 (sym (checkpoint_no_copies c.logged handle) ∙ copy.1))
    where
      later : Logged
      later = state_of (core_checkpointed c).disk

      again : later.table.files ≡ log_now.table.files
      again = sym (after.tied.base.base.files) ∙ same_files

      no_copy : (handle : ℕ) → table.get log_now.copies handle ≡ None → (o : Option Copy) → table.get c.logged.copies handle ≡ o → o ≡ None
      no_copy handle none None is = refl
      no_copy handle none (Some x) is = none_some x (sym none ∙ n.tied.base.base.among handle x is)

      by_copies : (handle : ℕ) (o p : Option Copy) → table.get log_now.copies handle ≡ o → table.get later.copies handle ≡ p
          → IsCopyIn log_now later handle ⊎ (granted_of (chunk_of log_now.table handle) ≡ granted_of (chunk_of later.table handle))
      by_copies handle (Some x) p is also = inl (inl (x, is))
      by_copies handle None (Some y) is also = inl (inr (y, also))
      by_copies handle None None is also =
          let gone : table.get c.logged.copies handle ≡ None = no_copy handle is (table.get c.logged.copies handle) refl in
          let left : Logged = all_copies_given_up c.logged in
          let first = same_granted (table.get (rows_of c.logged) handle) (table.get (rows_of log_now) handle) (n.tied.same handle (gone ∙ sym is)) in
          let stays : table.get (rows_of left) handle ≡ table.get (rows_of c.logged) handle =
          removed_other (rows_of c.logged) (table.keys c.logged.copies) handle (sym (table.contains_key-keys c.logged.copies handle) ∙ ap is_some gone) in
          let second = same_granted (table.get (rows_of left) handle) (table.get (rows_of later) handle) (after.tied.same handle (no_copies c.logged.copies handle ∙ sym also)) in
          inr (sym first ∙ ap granted_of (sym stays) ∙ second)

      same_again : HaveSameFiles log_now (state_of (core_checkpointed c).disk)
      same_again = record {
        lists = again;
        rows = λ handle copy. counts.rows handle copy.0 copy.1;
        next_file = let same = ap (λ (p : Parts). p.next_file) (sym n.same) in let then_ = ap (λ (p : Parts). p.next_file) after.same in omega (arith, same, then_);
        next_handle = let same = ap (λ (p : Parts). p.next_handle) (sym n.same) in let then_ = ap (λ (p : Parts). p.next_handle) after.same in omega (arith, same, then_);
        apart = λ handle copy. elim copy [
          | inl old ↦ counts.apart handle old.0 old.1
          | inr new ↦ ap (λ (files : Files). times_in files handle) (sym again) ∙ after.tied.log.base.apart handle new.0 new.1
        ];
        grants = λ handle. by_copies handle (table.get log_now.copies handle) (table.get later.copies handle) refl refl;
      }

-- the changes so far

dues_push : (d : LogDisk) (xs : List LogChange) (x : LogChange) → AreLogDues d xs → IsLogDue (log_changed_by_all d xs) x → AreLogDues d (xs ++ x ∷ [])
dues_push d [] x dues due = (due, tt)
dues_push d (y ∷ ys) x dues due = (dues.0, dues_push (log_changed d y) ys x dues.1 due)

-- chunks that are attempted stand once at most
abbrev pub AreSingle : Logged → Attempts → Type 0
AreSingle l attempts = (handle : ℕ) (a : VersionAttempt) → table.get attempts handle ≡ Some a → times_in l.table.files handle ≤ 1

module _ (start : LogDisk) where
  abbrev Goes : Core → Attempts → Waits → Type 0
  Goes c attempts ss = AreSingle c.logged attempts × AreLogDues start c.changes

  pushed : (c : Core) (x : LogChange) → IsRowing start c → AreLogDues start c.changes → IsLogDue c.disk x → AreLogDues start (c.changes ++ x ∷ [])
  pushed c x n dues due = dues_push start c.changes x dues (subst (λ (d : LogDisk). IsLogDue d x) (sym n.disk) due)

  pub used : (c : Core) → IsRowing start c → (h : ℕ) → 1 ≤ times_in c.logged.table.files h → h < c.logged.next_handle
  used c n h some =
      let low = n.tied.base.log.below h (let same = ap (λ (files : Files). times_in files h) n.tied.base.base.files in omega (arith, same, some)) in
      let next = ap (λ (p : Parts). p.next_handle) n.same in
      omega (arith, low, next)

  pub not_copied : (l : Logged) (attempts : Attempts) (ss : Waits) (now : ℕ) (r : Record) (handle : ℕ) (a : VersionAttempt) → IsBeside l attempts ss now r → table.get attempts handle ≡ Some a → IsNotCopied l r handle
  not_copied l attempts ss now (log.Snapshot client number from to) handle a beside at = λ x id below is some. (beside.2 x id below is).0 handle some a at
  not_copied l attempts ss now other handle a beside at = tt

  goes_on : Acts start NoneEnded (IsRowing start) Goes
  goes_on =
      record {
        tells = λ c attempts ss receiver b quiet h. h;
        orders = λ c attempts ss server b is plain none h. h;
        gives = λ c attempts ss server handle a b at has plain given h. h;
        revokes = λ c attempts ss handle row is h. h;
        appends = λ c attempts ss r due plain beside n after h. (
          λ handle a at. times_after c.logged r handle (used c n) n.tied.base.base.here due plain (not_copied c.logged attempts ss c.now r handle a beside at) (h.0 handle a at),
          pushed c (AppendRecord r) n h.1 (record_due start c n r due plain),
        );
        checkpoint = λ c attempts ss tree n after h. (
          λ handle a at. h.0 handle a (removed_cases attempts (table.keys c.logged.copies) handle a at),
          pushed c (WriteCheckpoint (checkpoint_of c.logged)) n h.1 (checkpoint_due start c n after),
        );
        less = λ c attempts ss handles copied n h. (λ handle a at. h.0 handle a (removed_cases attempts handles handle a at), h.1);
        fewer = λ c attempts left ss from h. (λ handle a at. h.0 handle a (from handle a at), h.1);
        waits = λ c attempts ss more h. h;
        issues = λ c attempts ss handle row a is next alone n before h. (λ q b at. elim (put_cases attempts handle a q b at) [ inl same ↦ subst (λ (x : ℕ). times_in c.logged.table.files x ≤ 1) (sym same.0) alone | inr old ↦ h.0 q b old ], h.1);
        copies = λ c attempts ss file index source copy a next n before h. (
          λ q b at.
              elim (put_cases attempts copy a q b at) [
                | inl same ↦
                    let none = fresh (times_in c.logged.table.files q) c.logged.next_handle q (used c n q) (same.0 ∙ next) in
                    omega (arith, none)
                | inr old ↦ h.0 q b old
              ],
          h.1,
        );
        records = λ c attempts ss handle a b at same servers h. (λ q x is. elim (put_cases attempts handle b q x is) [ inl here ↦ subst (λ (y : ℕ). times_in c.logged.table.files y ≤ 1) (sym here.0) (h.0 handle a at) | inr old ↦ h.0 q x old ], h.1);
        grants = λ c attempts ss handle a until primary members at all due n after h. (
          λ q b is. elim (same_or_not q handle) [
            | inl same ↦ absurd (none_some b (sym (gone_there attempts handle q same) ∙ is))
            | inr other ↦
                let before = h.0 q b (kept_cases attempts handle q b is) in
                let low = swapped_times (record c.logged { table = grant c.logged.table handle a.version primary members }) handle q (table.get c.logged.copies handle) other in
                omega (arith, before, low)
          ],
          pushed c (AppendRecord (grant_record handle a.version primary members)) n h.1 (references start c n, grant_due start c n handle a.version due.0 due.1 (due.2 tt) (h.0 handle a at)),
        );
        ends = λ c attempts ss handle row is word n h. h;
        extends = λ c attempts ss handle until row is lasts n h. h;
      }

-- a chunk with several owners isn't attempted
pub single_here : (config : Config) (servers clients : ℕ) (w : WorldState) → IsReached config servers clients w → IsTrue w.observer.are_clocks_kept → IsTrue w.master.up → AreSingle w.master.logged w.master.attempts
single_here config servers clients w r clocks up handle a at = by_times (times_in w.master.logged.table.files handle) refl
  where
    all : HasAllReferences w.master.logged.table
    all = (references_are_counted config servers clients w r up).0

    by_times : (n : ℕ) → times_in w.master.logged.table.files handle ≡ n → times_in w.master.logged.table.files handle ≤ 1
    by_times zero is = omega (arith, is)
    by_times (suc zero) is = omega (arith, is)
    by_times (suc (suc n)) is =
        let row = row_there w.master.logged.table handle (all.1 handle (omega (arith, is))) in
        let same = all.0 handle row.0 row.1 in
        none_some a (sym (shared_chunks_have_no_lease config servers clients w r clocks up handle row.0 row.1 (omega (arith, same, is))).0 ∙ at)

pub steps_log_what_is_due : StepsLogWhatIsDue
steps_log_what_is_due config servers clients w r clocks up moment i refused =
    let m : MasterState = w.master in
    let logged = (logged_here IsFoundRows IsRowedLog rows_kept config servers clients w r).1 in
    let u : IsUpToLog IsFoundRows IsRowedLog rows_kept m = logged.up up in
    let end =
    goes_acts NoneEnded (IsRowing m.disk) (Goes m.disk) m moment i refused (rowing_keeps m.disk) (λ c n. n) (goes_on m.disk) (any_input i) logged up (waits_here config servers clients w r)
    (record { none = u.idle; disk = refl; same = u.same; tied = u.tied; stops = logged.found [] })
    (single_here config servers clients w r clocks up, tt) in
    (end.2).1
