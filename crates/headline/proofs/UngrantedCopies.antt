-- Nothing was granted of a copy that is under way in the master's log, however it is decided what of it was under way; so it has no lease.
use Rattle.std.proofs.Common.{nat_cmp, ◌≡◌, ℕ, zero, suc, List, Option, Some, None, refl, sym, ap, subst, ◌∙◌, inl, inr, arith}
use Rattle.std.specs.FinMap as table
use Rattle.log_records.specs.declared.record.Record.{Record}
use Rattle.log_records.specs.declared.record.Record.TheVariants as log
use Rattle.relaxed_file.specs.Names.{copied_entries}
use Rattle.chunk_table.specs.ChunkTable.{ChunkRow, added_row, copied_row, grant, row_granted, row_issued}
use Rattle.protocol.specs.Sending.{handle_of}
use Rattle.protocol.specs.Choice.{decided_changes}
use Rattle.protocol.specs.Logged.{Logged, Copy, log_changed_by_all, after_record, copies_for_file, swapped_in}
use Rattle.laws_base.proofs.LeaseOrders.{SaysGrant}
use Rattle.laws_base.specs.Laws.{grants_of}
use Rattle.laws_base.proofs.Steps.{none_some, put_cases, put_split, gone_split, removed_cases}
use Rattle.laws_base.proofs.ChunkRows.{rows_of, From, all_copied_from, swapped_from, expired_from}
use Rattle.laws_base.proofs.VersionsAhead.{changed_cases}
use Rattle.laws_base.proofs.FilesLogged.{checkpoint_no_copies}
use Rattle.laws_base.proofs.LeaseEnds.{grant_tells}
use Rattle.laws_base.proofs.MasterMoves.{IsDue}
use Rattle.laws_base.proofs.NamesReached.{IsKeptByLog, logged_here}
use Rattle.laws_base.proofs.OrderNumbers.{state_of}
use Rattle.laws_base.proofs.Owners.{HasRow}
use Rattle.laws_base.proofs.RevokesNumbered.{IsOfRevokes, revokes_kept}
use Rattle.laws_base.proofs.RowsLogged.{IsFoundRows, IsRowedLog}
use Rattle.laws_base.proofs.RowsKept.{rows_kept}
use Rattle.laws_base.proofs.SentReached.{sent_reached}
use Rattle.laws_versions.proofs.LeaseLaws.{told_ends_are_the_masters}
use Rattle.laws_machine.proofs.EndedRounds.{some_place, grant_is}
use Rattle.headline.specs.CopiesInLog.{CopiesInTheLogAreOver}
use Rattle.laws_machine.proofs.OpenRounds.{ungranted_is_over}

-- nothing was granted of a copy under way
abbrev AreUngranted : Logged → Type 0
AreUngranted l = (handle : ℕ) (c : Copy) → table.get l.copies handle ≡ Some c → (row : ChunkRow) → table.get (rows_of l) handle ≡ Some row → row.granted ≡ 0

-- where each copy was one, and each row was there
ungranted_from : (l k : Logged) → ((handle : ℕ) (c : Copy) → table.get k.copies handle ≡ Some c → table.get l.copies handle ≡ Some c) → From (rows_of l) (rows_of k) → AreUngranted l → AreUngranted k
ungranted_from l k fewer rows h handle c is row at =
    let was = rows handle row at in
    let none = h handle c (fewer handle c is) was.old was.at in
    let same = was.granted in
    omega (arith, none, same)

-- a grant ends the copy
module _ (l : Logged) (h : AreUngranted l) (chunk version primary : ℕ) (members : List ℕ) where
  abbrev one : Logged
  one = record l { table = grant l.table chunk version primary members }

  other_row : (handle : ℕ) (c : Copy) → (handle ≡ chunk → ⊥) → table.get l.copies handle ≡ Some c → (row : ChunkRow) → table.get (rows_of one) handle ≡ Some row → row.granted ≡ 0
  other_row handle c other is row at =
      elim (changed_cases (rows_of l) chunk (row_granted version primary members) (table.get (rows_of l) chunk) handle row refl at) [
        | inl now ↦ absurd (other now.1)
        | inr before ↦ h handle c is row before.1
      ]

  granted_after : (o : Option Copy) → table.get l.copies chunk ≡ o → AreUngranted (swapped_in one chunk o)
  granted_after None none handle c is row at = other_row handle c (λ same. none_some c (sym none ∙ (ap (λ (q : ℕ). table.get l.copies q) (sym same) ∙ is))) is row at
  granted_after (Some x) some handle c is row at =
      let left = gone_split l.copies chunk handle c is in
      let was = swapped_from one chunk (Some x) handle row at in
      let none = other_row handle c left.0 left.1 was.old was.at in
      let same = was.granted in
      omega (arith, none, same)

ungranted_after : (l k : Logged) (r : Record) → IsDue (Unit {0}) l r → AreUngranted k → AreUngranted (after_record k r)
ungranted_after l k (log.AddChunk file new) due h handle c is row at =
    elim (put_cases (rows_of k) new.0 (added_row k.table file.0) handle row at) [
      | inl now ↦ sym (ap (λ (x : ChunkRow). x.granted) now.1)
      | inr before ↦ h handle c is row before
    ]
ungranted_after l k (log.CopyStart file index source copy copy_version) due h handle c is row at =
    elim (put_split (rows_of k) copy.0 (copied_row k.table source.0 copy_version.0) handle row at) [
      | inl now ↦ sym (ap (λ (x : ChunkRow). x.granted) now.1)
      | inr before ↦ elim (put_split k.copies copy.0 (record { file = file.0; index = index; source = source.0 }) handle c is) [
        | inl now ↦ absurd (before.0 now.0)
        | inr old ↦ h handle c old.1 row before.1
      ]
    ]
ungranted_after l k (log.Issue chunk version) due h handle c is row at =
    elim (changed_cases (rows_of k) chunk.0 (row_issued version.0) (table.get (rows_of k) chunk.0) handle row refl at) [
      | inl now ↦
          let none = h handle c is now.0 (ap (λ (q : ℕ). table.get (rows_of k) q) now.1 ∙ now.2) in
          let same = ap (λ (x : ChunkRow). x.granted) now.3 in
          omega (arith, none, same)
      | inr before ↦ h handle c is row before.1
    ]
ungranted_after l k (log.Grant chunk version primary members) due h handle c is row at = granted_after k h chunk.0 version.0 primary.0 members (table.get k.copies chunk.0) refl handle c is row at
ungranted_after l k (log.Snapshot client n from to) due h handle c is row at =
    ungranted_from k (after_record k (log.Snapshot client n from to)) (λ q d there. there) (all_copied_from k.table k.next_file (copied_entries k.names from to)) h handle c is row at
ungranted_after l k (log.Expired file) due h handle c is row at =
    ungranted_from k (after_record k (log.Expired file)) (λ q d there. removed_cases k.copies (copies_for_file k file.0) q d there) (expired_from k file) h handle c is row at
ungranted_after l k (log.Epoch epoch) due h handle c is row at = absurd due
ungranted_after l k (log.Mkdir client n path) due h handle c is row at = h handle c is row at
ungranted_after l k (log.Rmdir client n path) due h handle c is row at = h handle c is row at
ungranted_after l k (log.Create client n file shape path) due h handle c is row at = h handle c is row at
ungranted_after l k (log.Delete client n moment path) due h handle c is row at = h handle c is row at
ungranted_after l k (log.Rename client n from to) due h handle c is row at = h handle c is row at
ungranted_after l k (log.Refused client n refusal) due h handle c is row at = h handle c is row at
ungranted_after l k other due h handle c is row at = absurd due

-- in each log

abbrev IsFoundCopies : Logged → Type 0
IsFoundCopies k = IsFoundRows k × AreUngranted k

abbrev IsCopiedLog : Logged → Logged → Type 0
IsCopiedLog l k = IsRowedLog l k × AreUngranted k

copies_kept : IsKeptByLog IsFoundCopies IsCopiedLog
copies_kept =
    record {
      good = λ l k h. (rows_kept.good l k h.0, h.1);
      sound = λ l k h. rows_kept.sound l k h.0;
      new = (rows_kept.new, λ handle c is. none_some c (sym (table.get-empty nat_cmp handle) ∙ is));
      restart = λ k h. (rows_kept.restart k h.0, h.1);
      epochs = λ l k epoch h. (rows_kept.epochs l k epoch h.0, h.1);
      records = λ l k r same due names h. (rows_kept.records l k r same due names h.0, ungranted_after l k r due h.1);
      checkpoint = λ l k same tree h. (rows_kept.checkpoint l k same tree h.0, λ handle c is. none_some c (sym (checkpoint_no_copies l handle) ∙ is));
      less = λ l k handles copied h. (rows_kept.less l k handles copied h.0, h.1);
      rows = λ l k f shapes chunks same shaped h. (rows_kept.rows l k f shapes chunks same shaped h.0, h.1);
    }

-- no Grant of it was sent
pub copies_in_the_log_are_over : CopiesInTheLogAreOver
copies_in_the_log_are_over config servers clients w r clocks decided handle copy version = ungranted_is_over config servers clients w r handle version (by_count (grants_of handle version w.sent) refl)
  where
    found : IsFoundCopies (state_of (log_changed_by_all w.master.disk (decided_changes decided w.master.under_way)))
    found = ((logged_here IsFoundCopies IsCopiedLog copies_kept config servers clients w r).1.found decided).1

    has : HasRow (rows_of (state_of (log_changed_by_all w.master.disk (decided_changes decided w.master.under_way)))) handle
    has = (found.0).base.rows handle copy.0 copy.1

    ungranted : (has.0).granted ≡ 0
    ungranted = found.1 handle copy.0 copy.1 has.0 has.1

    by_count : (count : ℕ) → grants_of handle version w.sent ≡ count → grants_of handle version w.sent ≡ 0
    by_count zero is = is
    by_count (suc count) is =
        let sent = some_place handle version w.sent (omega (arith, is)) in
        let ends = grant_tells (sent.1).body handle version sent.3 in
        let from_one = (told_ends_are_the_masters config servers clients w r clocks sent.0 sent.1 sent.2 handle version ends.0 ends.1).numbered in
        let g = grant_is handle version (sent.1).body sent.3 in
        let named : SaysGrant g.order (handle_of handle) g.number g.end_moment g.members (sent.1).body =
        subst (λ (n : ℕ). SaysGrant g.order (handle_of n) g.number g.end_moment g.members (sent.1).body) g.handle_is g.body_is in
        let fits = (sent_reached IsOfRevokes revokes_kept config servers clients w r).revokes.found decided in
        let low = ((fits.rows handle has.0 has.1 sent.1 (sent.0, sent.2)).0 g.order g.number g.end_moment g.members named).0 in
        let none = ungranted in
        let same = g.version_is in
        absurd (omega (arith, from_one, low, none, same))
