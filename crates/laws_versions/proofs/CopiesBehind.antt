-- A copy under way was not granted, and its number comes after its source's; a step of the master begins no other copy than the one that it shows.
use Rattle.std.proofs.Common.{◌≡◌, ◌⊎◌, ℕ, ◌≤◌, ◌<◌, List, [], ◌∷◌, Option, Some, None, refl, sym, ap, ◌∙◌, inl, inr, arith}
use Rattle.std.specs.Prelude.{◌+◌}
use Rattle.std.specs.FinMap as table
use Rattle.messages.specs.declared.message.Message.{Message}
use Rattle.log_records.specs.declared.record.Record.{Record}
use Rattle.log_records.specs.declared.record.Record.TheVariants as log
use Rattle.relaxed_file.specs.Names.{copied_entries}
use Rattle.chunk_table.specs.ChunkTable.{ChunkRow, changed_by, row_issued, row_granted, issue, copied_row}
use Rattle.protocol.specs.Tables.{Table}
use Rattle.protocol.specs.Sending.{file_id, handle_of, version_of, server_id}
use Rattle.protocol.specs.declared.seen.Seen.TheVariants.{CopyStarted}
use Rattle.protocol.specs.Logged.{Logged, Copy, LogChange, after_record, copies_for_file, swapped_in}
use Rattle.protocol.specs.Master.{MasterDoing, VersionAttempt, appends, writes_checkpoint, gives_up_copies, ends_at}
use Rattle.protocol.specs.MasterVersions.{sends_grant}
use Rattle.laws_base.proofs.Steps.{none_some, put_split, gone_split, removed_cases}
use Rattle.laws_base.proofs.ChunkRows.{Rows, rows_of, WasThere, From, same_from, changed_from, from_owned, removed_owned, all_copied_owned, expired_owned}
use Rattle.laws_base.proofs.VersionsAhead.{changed_cases}
use Rattle.laws_base.proofs.LeasesEnded.{granted_table, after_grant}
use Rattle.laws_versions.proofs.UnaskedSteps.{IsOfNames, KeepsNames, KeepsReports}
use Rattle.laws_versions.proofs.FreeSources.{IsFine, fine_names, fine_reports}
use Rattle.laws_versions.proofs.AskedSteps.{IsNoSource}
use Rattle.laws_versions.proofs.AttemptedNumbers.{granted_from}

-- nothing was granted of the copy, and what was issued of it comes after what was issued of its source
abbrev pub IsBehind : Rows → ℕ → ℕ → Type 0
IsBehind rows copy source =
    (row : ChunkRow) → table.get rows copy ≡ Some row → (row.granted ≡ 0) × ((other : ChunkRow) → table.get rows source ≡ Some other → other.issued < row.issued)

-- so it is of each copy under way
abbrev pub AreBehind : Logged → Type 0
AreBehind l = (copy : ℕ) (c : Copy) → table.get l.copies copy ≡ Some c → IsBehind (rows_of l) copy c.source

-- each copy of the second was one of the first
abbrev pub HasFewer : Table Copy → Logged → Type 0
HasFewer before l = (copy : ℕ) (c : Copy) → table.get l.copies copy ≡ Some c → table.get before copy ≡ Some c

pub behind_from : (l k : Logged) → HasFewer l.copies k → From (rows_of l) (rows_of k) → AreBehind l → AreBehind k
behind_from l k fewer rows h copy c is row at =
    let was = rows copy row at in
    let old = h copy c (fewer copy c is) was.old was.at in
    let none = old.0 in
    let granted = was.granted in (
      omega (arith, none, granted),
      λ other there.
          let source = rows c.source other there in
          let low = old.1 source.old source.at in
          let one = was.issued in
          let two = source.issued in
          omega (arith, low, one, two),
    )

-- a record of a name call
fewer_named : (l : Logged) (r : Record) → IsOfNames r → HasFewer l.copies (after_record l r) × From (rows_of l) (rows_of (after_record l r))
fewer_named l (log.Snapshot client n from to) names =
    let r : Record = log.Snapshot client n from to in
    ((λ copy c is. is), from_owned (rows_of l) (rows_of (after_record l r)) (all_copied_owned l.table l.next_file (copied_entries l.names from to)))
fewer_named l (log.Expired file) names =
    let r : Record = log.Expired file in
    ((λ copy c is. removed_cases l.copies (copies_for_file l file.0) copy c is), from_owned (rows_of l) (rows_of (after_record l r)) (expired_owned l file))
fewer_named l (log.Mkdir client n path) names = ((λ copy c is. is), same_from (rows_of l))
fewer_named l (log.Rmdir client n path) names = ((λ copy c is. is), same_from (rows_of l))
fewer_named l (log.Create client n file shape path) names = ((λ copy c is. is), same_from (rows_of l))
fewer_named l (log.Delete client n moment path) names = ((λ copy c is. is), same_from (rows_of l))
fewer_named l (log.Rename client n from to) names = ((λ copy c is. is), same_from (rows_of l))
fewer_named l (log.Refused client n refusal) names = ((λ copy c is. is), same_from (rows_of l))
fewer_named l other names = absurd names

-- a number of a chunk that is no source is issued
pub behind_issued : (l : Logged) (handle version : ℕ) → IsNoSource l handle → ((old : ChunkRow) → table.get (rows_of l) handle ≡ Some old → old.issued ≤ version) → AreBehind l → AreBehind (record l { table = issue l.table handle version })
behind_issued l handle version none most h copy c is row at =
    elim (changed_cases (rows_of l) handle (row_issued version) (table.get (rows_of l) handle) copy row refl at) [
      | inl changed ↦
          let old = h copy c is changed.0 (ap (λ (n : ℕ). table.get (rows_of l) n) changed.1 ∙ changed.2) in
          let unset = old.0 in
          let granted : (changed.0).granted ≡ row.granted = ap (λ (r : ChunkRow). r.granted) changed.3 in (
            omega (arith, unset, granted),
            λ other there.
                let low = old.1 other (source_same copy c is other there) in
                let high = most changed.0 changed.2 in
                let issued : version ≡ row.issued = ap (λ (r : ChunkRow). r.issued) changed.3 in
                omega (arith, low, high, issued),
          )
      | inr before ↦ let old = h copy c is row before.1 in (old.0, λ other there. old.1 other (source_same copy c is other there))
    ]
  where
    source_same : (q : ℕ) (d : Copy) → table.get l.copies q ≡ Some d → (other : ChunkRow) → table.get (changed_by (rows_of l) handle (row_issued version) (table.get (rows_of l) handle)) d.source ≡ Some other → table.get (rows_of l) d.source ≡ Some other
    source_same q d there other found =
        elim (changed_cases (rows_of l) handle (row_issued version) (table.get (rows_of l) handle) d.source other refl found) [
          | inl changed ↦ absurd (none q d there changed.1)
          | inr before ↦ before.1
        ]

-- a copy begins, under a handle that is new
pub behind_begun : (l : Logged) (file index handle copy version : ℕ) → IsNoSource l copy → (handle ≡ copy → ⊥) → ((old : ChunkRow) → table.get (rows_of l) handle ≡ Some old → old.issued < version) → AreBehind l
    → AreBehind (after_record l (log.CopyStart (file_id file) index (handle_of handle) (handle_of copy) (version_of version)))
behind_begun l file index handle copy version none apart above h q c is row at =
    elim (put_split l.copies copy (record { file = file; index = index; source = handle }) q c is) [
      | inl same ↦
          elim (put_split (rows_of l) copy new q row at) [
            | inl this ↦ (
              sym (ap (λ (r : ChunkRow). r.granted) this.1),
              λ other there.
                  elim (put_split (rows_of l) copy new c.source other there) [
                    | inl self ↦ absurd (apart (ap (λ (x : Copy). x.source) same.1 ∙ self.0))
                    | inr before ↦
                        let low = above other (ap (λ (x : Copy). table.get (rows_of l) x.source) same.1 ∙ before.1) in
                        let issued : version ≡ row.issued = ap (λ (r : ChunkRow). r.issued) this.1 in
                        omega (arith, low, issued)
                  ],
            )
            | inr other ↦ absurd (other.0 same.0)
          ]
      | inr kept ↦
          elim (put_split (rows_of l) copy new q row at) [
            | inl this ↦ absurd (kept.0 this.0)
            | inr other ↦
                let old = h q c kept.1 row other.1 in (
                  old.0,
                  λ source there.
                      elim (put_split (rows_of l) copy new c.source source there) [
                        | inl self ↦ absurd (none q c kept.1 self.0)
                        | inr before ↦ old.1 source before.1
                      ],
                )
          ]
    ]
  where
    new : ChunkRow
    new = copied_row l.table handle version

-- a grant, which is of no source

copies_left : (l : Logged) (handle version primary : ℕ) (members : List ℕ) (o : Option Copy) (q : ℕ) (c : Copy) → table.get l.copies handle ≡ o → table.get (swapped_in (granted_table l handle version primary members) handle o).copies q ≡ Some c
    → (q ≡ handle → ⊥) × (table.get l.copies q ≡ Some c)
copies_left l handle version primary members None q c none is = (λ same. none_some c (sym none ∙ ap (λ (n : ℕ). table.get l.copies n) (sym same) ∙ is), is)
copies_left l handle version primary members (Some x) q c some is = gone_split l.copies handle q c is

module _ (l : Logged) (handle version until primary : ℕ) (members : List ℕ) where
  granted_left : (q : ℕ) (c : Copy) → table.get (after_grant l handle version until primary members).copies q ≡ Some c → (q ≡ handle → ⊥) × (table.get l.copies q ≡ Some c)
  granted_left q c is = copies_left l handle version primary members (table.get l.copies handle) q c refl is

  -- rows of other chunks keep their versions
  granted_row : (q : ℕ) (row : ChunkRow) → (q ≡ handle → ⊥) → table.get (rows_of (after_grant l handle version until primary members)) q ≡ Some row → WasThere (rows_of l) q row
  granted_row q row other at =
      elim (changed_cases (rows_of l) handle (row_granted version primary members) (table.get (rows_of l) handle) q was.old refl was.at) [
        | inl changed ↦ absurd (other changed.1)
        | inr before ↦ record { old = was.old; at = before.1; granted = was.granted; issued = was.issued; primary = was.primary }
      ]
    where
      was : WasThere (rows_of (granted_table l handle version primary members)) q row
      was = granted_from l handle version until primary members q row at

  behind_granted : IsNoSource l handle → AreBehind l → AreBehind (after_grant l handle version until primary members)
  behind_granted none h copy c is row at =
      let kept = granted_left copy c is in
      let was = granted_row copy row kept.0 at in
      let old = h copy c kept.1 was.old was.at in
      let unset = old.0 in
      let granted = was.granted in (
        omega (arith, unset, granted),
        λ other there.
            let source = granted_row c.source other (none copy c kept.1) there in
            let low = old.1 source.old source.at in
            let one = was.issued in
            let two = source.issued in
            omega (arith, low, one, two),
      )

-- a step so far, from these copies

module _ (before : Table Copy) where
  -- each copy under way was so before, or the step shows that it begins
  abbrev pub AreShown : MasterDoing → Type 0
  AreShown d = (copy : ℕ) (c : Copy) → table.get d.master.logged.copies copy ≡ Some c → (table.get before copy ≡ Some c) ⊎ (d.seen ≡ CopyStarted (handle_of c.source) (handle_of copy) ∷ [])

  abbrev pub IsAlike : MasterDoing → Type 0
  IsAlike d = AreShown d × AreBehind d.master.logged

  shown_from : (d e : MasterDoing) → e.seen ≡ d.seen → HasFewer d.master.logged.copies e.master.logged → AreShown d → AreShown e
  shown_from d e same fewer h copy c is = elim (h copy c (fewer copy c is)) [ inl was ↦ inl was | inr now ↦ inr (same ∙ now) ]

  alike_from : (d e : MasterDoing) → e.seen ≡ d.seen → HasFewer d.master.logged.copies e.master.logged → From (rows_of d.master.logged) (rows_of e.master.logged) → IsAlike d → IsAlike e
  alike_from d e same fewer rows h = (shown_from d e same fewer h.0, behind_from d.master.logged e.master.logged fewer rows h.1)

  less_alike : (d : MasterDoing) (handles : List ℕ) → IsAlike d → IsAlike (gives_up_copies d handles)
  less_alike d handles h =
      alike_from d (gives_up_copies d handles) refl (λ copy c is. removed_cases d.master.logged.copies handles copy c is)
      (from_owned (rows_of d.master.logged) (rows_of (gives_up_copies d handles).master.logged) (removed_owned (rows_of d.master.logged) handles)) h

  checkpoint_alike : (d : MasterDoing) → IsAlike d → IsAlike (writes_checkpoint d)
  checkpoint_alike d h =
      alike_from d (writes_checkpoint d) refl (λ copy c is. removed_cases d.master.logged.copies (table.keys d.master.logged.copies) copy c is)
      (from_owned (rows_of d.master.logged) (rows_of (writes_checkpoint d).master.logged) (removed_owned (rows_of d.master.logged) (table.keys d.master.logged.copies))) h

  ends_alike : (d : MasterDoing) (handle until : ℕ) → IsAlike d → IsAlike (ends_at d handle until)
  ends_alike d handle until h =
      alike_from d (ends_at d handle until) refl (λ copy c is. is)
      (changed_from (rows_of d.master.logged) handle (λ r. record r { lease_end = until }) (table.get (rows_of d.master.logged) handle) refl (λ r. (refl, refl, refl))) h

  pub names_alike : KeepsNames IsAlike
  names_alike =
      record {
        said = λ d receiver b is h. h;
        ordered = λ d server b is h. h;
        recorded = λ d r is h. let fewer = fewer_named d.master.logged r is in alike_from d (appends d r) refl fewer.0 fewer.1 h;
        checkpointed = checkpoint_alike;
        less = less_alike;
        fewer = λ d handles h. h;
        waiting = λ d ss h. h;
        refusing = λ d bs h. h;
      }

  -- with sources that are free

  abbrev pub IsFree : MasterDoing → Type 0
  IsFree d = IsFine (λ (m : Message). Unit {0}) (λ (x : LogChange). Unit {0}) (λ receiver b none. tt) (λ r is. tt) (λ rs. tt) d

  free_names : KeepsNames IsFree
  free_names = fine_names (λ (m : Message). Unit {0}) (λ (x : LogChange). Unit {0}) (λ receiver b none. tt) (λ r is. tt) (λ rs. tt)

  free_reports : KeepsReports IsFree
  free_reports = fine_reports (λ (m : Message). Unit {0}) (λ (x : LogChange). Unit {0}) (λ receiver b none. tt) (λ r is. tt) (λ rs. tt) (λ handle version primary members. tt)

  abbrev pub IsAlikeAndFree : MasterDoing → Type 0
  IsAlikeAndFree d = IsFree d × IsAlike d

  grants_alike : (d : MasterDoing) (handle : ℕ) (a : VersionAttempt) (primary : ℕ) (members : List ℕ) → table.get d.master.attempts handle ≡ Some a → IsAlikeAndFree d
      → IsAlike (sends_grant (appends d (log.Grant (handle_of handle) (version_of a.version) (server_id primary) members)) handle a.version primary members)
  grants_alike d handle a primary members at h =
      let l : Logged = d.master.logged in
      let until : ℕ = d.master.now + d.master.config.lease_ms in
      let none : IsNoSource l handle = λ copy c is same. (h.0.free copy c is).0 a (ap (λ (n : ℕ). table.get d.master.attempts n) same ∙ at) in (
        shown_from d (sends_grant (appends d (log.Grant (handle_of handle) (version_of a.version) (server_id primary) members)) handle a.version primary members) refl (λ copy c is. (granted_left l handle a.version until primary members copy c is).1) h.1.0,
        behind_granted l handle a.version until primary members none h.1.1,
      )

  pub both_names : KeepsNames IsAlikeAndFree
  both_names =
      record {
        said = λ d receiver b is h. (free_names.said d receiver b is h.0, h.1);
        ordered = λ d server b is h. (free_names.ordered d server b is h.0, h.1);
        recorded = λ d r is h. (free_names.recorded d r is h.0, names_alike.recorded d r is h.1);
        checkpointed = λ d h. (free_names.checkpointed d h.0, checkpoint_alike d h.1);
        less = λ d handles h. (free_names.less d handles h.0, less_alike d handles h.1);
        fewer = λ d handles h. (free_names.fewer d handles h.0, h.1);
        waiting = λ d ss h. (free_names.waiting d ss h.0, h.1);
        refusing = λ d bs h. (free_names.refusing d bs h.0, h.1);
      }

  pub both_reports : KeepsReports IsAlikeAndFree
  both_reports =
      record {
        held = λ d server handle version h. (free_reports.held d server handle version h.0, h.1);
        heard = λ d server lines h. (free_reports.heard d server lines h.0, h.1);
        in_time = λ d h. (free_reports.in_time d h.0, h.1);
        noted = λ d handle a b at same h. (free_reports.noted d handle a b at same h.0, h.1);
        granted = λ d handle a primary members at h. (free_reports.granted d handle a primary members at h.0, grants_alike d handle a primary members at h);
        ended = λ d handle h. (free_reports.ended d handle h.0, ends_alike d handle 0 h.1);
        lengthened = λ d handle until row is late h. (free_reports.lengthened d handle until row is late h.0, ends_alike d handle until h.1);
      }
