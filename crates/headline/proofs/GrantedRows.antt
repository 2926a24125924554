-- In a step that takes a message what is granted keeps its row, and files stay.
use Rattle.std.proofs.Common.{◌≡◌, ◌⊎◌, ℕ, Bool, true, false, List, [], ◌∷◌, ◌++◌, Option, Some, None, refl, sym, ap, ◌∙◌, inl, inr}
use Rattle.std.specs.Prelude.{nat_le, IsTrue}
use Rattle.std.specs.List.{list_any}
use Rattle.std.specs.Ordering.{nat_cmp, eq_by_cmp}
use Rattle.std.specs.FinMap as table
use Rattle.gfs_types.specs.Paths.{Path}
use Rattle.gfs_types.specs.declared.config.Config.{Config}
use Rattle.messages.specs.declared.event.NodeInput.TheVariants as input
use Rattle.log_records.specs.declared.record.Record.{Record}
use Rattle.log_records.specs.declared.record.Record.TheVariants as log
use Rattle.chunk_table.specs.ChunkTable.{ChunkTable, ChunkRow, handles_of, changed_by, row_granted, row_left, share_one, share_all, left_by}
use Rattle.relaxed_file.specs.Names.{Node, Dir, File, copied_entries, id_after}
use Rattle.protocol.specs.Tables.{removed_all}
use Rattle.protocol.specs.Logged.{Logged, Copy, LogDisk, LogChange, AppendRecord, WriteCheckpoint, after_record, checkpoint_of, copies_given_up, all_copies_given_up, swapped_in, with_copied_node, with_copied_nodes}
use Rattle.protocol.specs.Master.{MasterState, MasterDoing}
use Rattle.protocol.specs.MasterStep.{master_goes}
use Rattle.protocol.specs.World.{WorldState, happens, IsReached}
use Rattle.laws_base.proofs.Steps.{on_cond, same_or_not, put_there, put_other, gone_there, gone_other, kept_cases, removed_cases, none_some}
use Rattle.laws_base.proofs.Entries.{AllOf}
use Rattle.laws_base.proofs.ChunkRows.{Rows, rows_of}
use Rattle.laws_base.proofs.CopiesUnderWay.{AreCopied, keys_are_copied}
use Rattle.laws_base.proofs.Owners.{HasRow, shared_row}
use Rattle.laws_base.proofs.FilesNamed.{Files}
use Rattle.laws_base.proofs.MasterMoves.{Core, core_of, grant_record, IsNoGrantRecord, NoneEnded, removed_other}
use Rattle.laws_base.proofs.RowsFit.{granted_logged}
use Rattle.laws_base.proofs.RowsLogged.{IsFoundRows, IsRowedLog}
use Rattle.laws_base.proofs.RowsKept.{rows_kept}
use Rattle.laws_base.proofs.NamesReached.{IsUpToLog, logged_here}
use Rattle.laws_base.proofs.Awaited.{Attempts, AreWaiting}
use Rattle.laws_base.proofs.MasterActs.{IsRowing, rowing_keeps, Waits, Acts}
use Rattle.laws_base.proofs.WaitsKept.{any_input, waits_here}
use Rattle.laws_base.proofs.ActsOfSteps.{goes_acts}
use Rattle.laws_versions.proofs.CopiedSources.{copied_chunks_have_no_lease}
use Rattle.laws_versions.proofs.PlacesKept.{IsSourceOf, all_front, all_last}
use Rattle.laws_machine.specs.GrantedRecords.{IsAttempted, IsGrantOf, HasGrantRecord}
use Rattle.headline.specs.GrantingSteps.{GrantedChunksStay}
use Rattle.headline.proofs.GrantingSteps.{IsPlainRecord, IsPlain, IsGrantingStep, messages_are_plain, granting_step}

-- rows that are there stay

row_put : (rows : Rows) (x : ℕ) (row : ChunkRow) (q : ℕ) → HasRow rows q → HasRow (table.insert rows x row) q
row_put rows x row q has = elim (same_or_not q x) [
  | inl same ↦ (row, put_there rows x row q same)
  | inr other ↦ (has.0, put_other rows x row q other ∙ has.1)
]

row_changed : (rows : Rows) (x : ℕ) (change : ChunkRow → ChunkRow) (o : Option ChunkRow) (q : ℕ) → HasRow rows q → HasRow (changed_by rows x change o) q
row_changed rows x change None q has = has
row_changed rows x change (Some row) q has = row_put rows x (change row) q has

rows_shared : (hs : List ℕ) (rows : Rows) (q : ℕ) → HasRow rows q → HasRow (share_all rows hs) q
rows_shared [] rows q has = has
rows_shared (x ∷ hs) rows q has = rows_shared hs (share_one rows x) q (shared_row rows x q has)

row_left_by : (rows : Rows) (x : ℕ) (o : Option ChunkRow) (q : ℕ) → (q ≡ x → ⊥) → HasRow rows q → HasRow (left_by rows x o) q
row_left_by rows x None q other has = has
row_left_by rows x (Some row) q other has =
    on_cond (λ (t : Rows). HasRow t q) (nat_le row.references 1) (table.remove rows x) (table.insert rows x (row_left row)) (λ _. (has.0, gone_other rows x q other ∙ has.1)) (λ _. row_put rows x (row_left row) q has)

rows_copied : (es : List (Path × Node)) (t : ChunkTable) (next q : ℕ) → HasRow t.chunks q → HasRow (with_copied_nodes t next es).chunks q
rows_copied [] t next q has = has
rows_copied (e ∷ es) t next q has = rows_copied es (with_copied_node t next e.1) (id_after next e.1) q (one e.1)
  where
    one : (n : Node) → HasRow (with_copied_node t next n).chunks q
    one Dir = has
    one (File id) = rows_shared (handles_of t id) t.chunks q has

-- files that are there stay

abbrev pub HasFile : Files → ℕ → Type 0
HasFile files file = (handles : List ℕ) × (table.get files file ≡ Some handles)

file_put : (files : Files) (x : ℕ) (handles : List ℕ) (file : ℕ) → HasFile files file → HasFile (table.insert files x handles) file
file_put files x handles file has = elim (same_or_not file x) [
  | inl same ↦ (handles, put_there files x handles file same)
  | inr other ↦ (has.0, put_other files x handles file other ∙ has.1)
]

files_copied : (es : List (Path × Node)) (t : ChunkTable) (next file : ℕ) → HasFile t.files file → HasFile (with_copied_nodes t next es).files file
files_copied [] t next file has = has
files_copied (e ∷ es) t next file has = files_copied es (with_copied_node t next e.1) (id_after next e.1) file (one e.1)
  where
    one : (n : Node) → HasFile (with_copied_node t next n).files file
    one Dir = has
    one (File id) = file_put t.files next (handles_of t id) file has

has_cases : (xs : List LogChange) (x : LogChange) (handle version : ℕ) → HasGrantRecord (xs ++ x ∷ []) handle version → HasGrantRecord xs handle version ⊎ IsGrantOf x handle version
has_cases [] x handle version (inl now) = inr now
has_cases [] x handle version (inr none) = absurd none
has_cases (y ∷ ys) x handle version (inl now) = inl (inl now)
has_cases (y ∷ ys) x handle version (inr later) = elim (has_cases ys x handle version later) [ inl old ↦ inl (inr old) | inr new ↦ inr new ]

no_grant : (r : Record) (handle version : ℕ) → IsNoGrantRecord r → IsGrantOf (AppendRecord r) handle version → ⊥
no_grant (log.Grant h v primary members) handle version plain is = plain
no_grant other handle version plain is = is

module _ (first : Logged) (q version file : ℕ) (unsourced : IsSourceOf first q → ⊥) where
  -- A step so far: its copies were under way, what was granted has its row and is no copy, and the file is there if it was.
  record IsThere (l : Logged) (changes : List LogChange) : Type 0 where
    copies : (copy : ℕ) (x : Copy) → table.get l.copies copy ≡ Some x → table.get first.copies copy ≡ Some x
    row : HasGrantRecord changes q version → HasRow (rows_of l) q × ((x : Copy) → table.get l.copies q ≡ Some x → ⊥)
    there : HasFile first.table.files file → HasFile l.table.files file

  abbrev Stays : Core → Attempts → Waits → Type 0
  Stays c attempts ss = AllOf IsPlain c.changes → IsThere c.logged c.changes

  -- a record of a call
  recorded : (l : Logged) (changes : List LogChange) (r : Record) → IsPlainRecord r → IsNoGrantRecord r → IsThere l changes → IsThere (after_record l r) (changes ++ AppendRecord r ∷ [])
  recorded l changes r is plain h = by_record r is plain (λ has. elim (has_cases changes (AppendRecord r) q version has) [ inl old ↦ h.row old | inr new ↦ absurd (no_grant r q version plain new) ])
    where
      by_record : (r : Record) → IsPlainRecord r → IsNoGrantRecord r → (HasGrantRecord (changes ++ AppendRecord r ∷ []) q version → HasRow (rows_of l) q × ((x : Copy) → table.get l.copies q ≡ Some x → ⊥))
          → IsThere (after_record l r) (changes ++ AppendRecord r ∷ [])
      by_record (log.Grant h v primary members) is plain row = absurd plain
      by_record (log.Mkdir client n path) is plain row = record { copies = h.copies; row = row; there = h.there }
      by_record (log.Rmdir client n path) is plain row = record { copies = h.copies; row = row; there = h.there }
      by_record (log.Create client n new shape path) is plain row = record { copies = h.copies; row = row; there = λ has. file_put l.table.files new.0 [] file (h.there has) }
      by_record (log.Delete client n moment path) is plain row = record { copies = h.copies; row = row; there = h.there }
      by_record (log.Rename client n from to) is plain row = record { copies = h.copies; row = row; there = h.there }
      by_record (log.Snapshot client n from to) is plain row =
          record {
            copies = h.copies;
            row = λ has. (rows_copied (copied_entries l.names from to) l.table l.next_file q (row has).0, (row has).1);
            there = λ has. files_copied (copied_entries l.names from to) l.table l.next_file file (h.there has);
          }
      by_record (log.Refused client n refusal) is plain row = record { copies = h.copies; row = row; there = h.there }
      by_record other is plain row = absurd is

  -- copies that are given up
  given_up : (l : Logged) (changes : List LogChange) (handles : List ℕ) → AreCopied l handles → IsThere l changes → IsThere (copies_given_up l handles) changes
  given_up l changes handles copied h =
      record {
        copies = λ copy x is. h.copies copy x (removed_cases l.copies handles copy x is);
        row = λ has. let old = h.row has in (by_list old (list_any (eq_by_cmp nat_cmp q) handles) refl, λ x is. old.1 x (removed_cases l.copies handles q x is));
        there = h.there;
      }
    where
      by_list : HasRow (rows_of l) q × ((x : Copy) → table.get l.copies q ≡ Some x → ⊥) → (b : Bool) → list_any (eq_by_cmp nat_cmp q) handles ≡ b → HasRow (removed_all (rows_of l) handles) q
      by_list old true listed = absurd (let found = copied q listed in old.1 found.0 found.1)
      by_list old false none = ((old.0).0, removed_other (rows_of l) handles q none ∙ (old.0).1)

  same_changes : (l : Logged) (xs ys : List LogChange) → (HasGrantRecord ys q version → HasGrantRecord xs q version) → IsThere l xs → IsThere l ys
  same_changes l xs ys same h = record { copies = h.copies; row = λ has. h.row (same has); there = h.there }

  -- the end of a lease is set
  ended : (l : Logged) (changes : List LogChange) (handle moment : ℕ) → IsThere l changes → IsThere (record l { table = record l.table { chunks = changed_by (rows_of l) handle (λ row. record row { lease_end = moment }) (table.get (rows_of l) handle) } }) changes
  ended l changes handle moment h =
      record { copies = h.copies; row = λ has. (row_changed (rows_of l) handle (λ row. record row { lease_end = moment }) (table.get (rows_of l) handle) q (h.row has).0, (h.row has).1); there = h.there }

  -- a grant
  module _ (l : Logged) (changes : List LogChange) (handle number primary : ℕ) (members : List ℕ) (at : HasRow (rows_of l) handle) (h : IsThere l changes) where
    one : Logged
    one = granted_logged l handle number primary members

    row_before : HasGrantRecord (changes ++ AppendRecord (grant_record handle number primary members) ∷ []) q version → HasRow (rows_of l) q × ((q ≡ handle → ⊥) → (x : Copy) → table.get l.copies q ≡ Some x → ⊥)
    row_before has = elim (has_cases changes (AppendRecord (grant_record handle number primary members)) q version has) [
      | inl old ↦ let was = h.row old in (was.0, λ other. was.1)
      | inr new ↦ ((at.0, ap (λ (n : ℕ). table.get (rows_of l) n) (sym new.0) ∙ at.1), λ other. absurd (other (sym new.0)))
    ]

    by_copy : (o : Option Copy) → table.get l.copies handle ≡ o → IsThere (swapped_in (granted_logged l handle number primary members) handle o) (changes ++ AppendRecord (grant_record handle number primary members) ∷ [])
    by_copy None is =
        record {
          copies = h.copies;
          row = λ has.
              let was = row_before has in (
                row_changed (rows_of l) handle (row_granted number primary members) (table.get (rows_of l) handle) q was.0,
                λ x there. elim (same_or_not q handle) [
                  | inl same ↦ none_some x (sym is ∙ ap (λ (n : ℕ). table.get l.copies n) (sym same) ∙ there)
                  | inr other ↦ was.1 other x there
                ],
              );
          there = h.there;
        }
    by_copy (Some c) is =
        record {
          copies = λ copy x there. h.copies copy x (kept_cases l.copies handle copy x there);
          row = λ has.
              let was = row_before has in
              let granted : HasRow (changed_by (rows_of l) handle (row_granted number primary members) (table.get (rows_of l) handle)) q = row_changed (rows_of l) handle (row_granted number primary members) (table.get (rows_of l) handle) q was.0 in
              let shared = shared_row (changed_by (rows_of l) handle (row_granted number primary members) (table.get (rows_of l) handle)) handle q granted in (
                row_left_by (share_one (changed_by (rows_of l) handle (row_granted number primary members) (table.get (rows_of l) handle)) handle) c.source
                    (table.get (share_one (changed_by (rows_of l) handle (row_granted number primary members) (table.get (rows_of l) handle)) handle) c.source) q (λ same. unsourced (handle, c, h.copies handle c is, sym same)) shared,
                λ x there. elim (same_or_not q handle) [
                  | inl same ↦ none_some x (sym (gone_there l.copies handle q same) ∙ there)
                  | inr other ↦ was.1 other x (sym (gone_other l.copies handle q other) ∙ there)
                ],
              );
          there = λ has. file_put l.table.files c.file _ file (h.there has);
        }

  staying_acts : (start : LogDisk) → Acts start NoneEnded (IsRowing start) Stays
  staying_acts start =
      record {
        tells = λ c attempts ss receiver b quiet h. h;
        orders = λ c attempts ss server b is plain none h. h;
        gives = λ c attempts ss server handle a b at has plain given h. h;
        revokes = λ c attempts ss handle row is h. h;
        appends = λ c attempts ss r due plain beside n after h. λ all.
            recorded c.logged c.changes r (all_last IsPlain c.changes (AppendRecord r) all) plain (h (all_front IsPlain c.changes (AppendRecord r ∷ []) all));
        checkpoint = λ c attempts ss tree n after h. λ all.
            same_changes (all_copies_given_up c.logged) c.changes (c.changes ++ WriteCheckpoint (checkpoint_of c.logged) ∷ [])
            (λ has. elim (has_cases c.changes (WriteCheckpoint (checkpoint_of c.logged)) q version has) [ inl old ↦ old | inr new ↦ absurd new ])
            (given_up c.logged c.changes (table.keys c.logged.copies) (keys_are_copied c.logged) (h (all_front IsPlain c.changes (WriteCheckpoint (checkpoint_of c.logged) ∷ []) all)));
        less = λ c attempts ss handles copied n h. λ all. given_up c.logged c.changes handles copied (h all);
        fewer = λ c attempts left ss were h. h;
        waits = λ c attempts ss more h. h;
        issues = λ c attempts ss handle row a is next alone n before h. h;
        copies = λ c attempts ss of_file index source copy a next n before h. h;
        records = λ c attempts ss handle a b at same servers h. h;
        grants = λ c attempts ss handle a until primary members at all_members due n after h. λ all.
            let l : Logged = c.logged in
            ended (after_record l (grant_record handle a.version primary members)) (c.changes ++ AppendRecord (grant_record handle a.version primary members) ∷ []) handle until
            (by_copy l c.changes handle a.version primary members (due.0, due.1) (h (all_front IsPlain c.changes (AppendRecord (grant_record handle a.version primary members) ∷ []) all)) (table.get l.copies handle) refl);
        ends = λ c attempts ss handle row is word n h. λ all. ended c.logged c.changes handle 0 (h all);
        extends = λ c attempts ss handle until row is lasts n h. λ all. ended c.logged c.changes handle until (h all);
      }

-- What was granted in a step that takes a message is there after it, where it was no copy's source; and so is each file.
pub granted_stays : (config : Config) (servers clients : ℕ) (w : WorldState) → IsReached config servers clients w → (handle version : ℕ) (m : MasterState) (g : IsGrantingStep w handle version m) → (IsSourceOf w.master.logged handle → ⊥) → (file : ℕ)
    → HasRow (rows_of m.logged) handle × (HasFile w.master.logged.table.files file → HasFile m.logged.table.files file)
granted_stays config servers clients w r handle version m g unsourced file =
    let there : IsThere start.logged handle version file unsourced d.master.logged d.changes = end.2 (messages_are_plain start g.moment g.message g.refused g.no_ask) in (
      (let row = (there.row g.has).0 in (row.0, ap (λ (x : MasterState). table.get (rows_of x.logged) handle) g.goes ∙ row.1)),
      λ has. let still = there.there has in (still.0, ap (λ (x : MasterState). table.get x.logged.table.files file) g.goes ∙ still.1),
    )
  where
    start : MasterState
    start = w.master

    d : MasterDoing
    d = master_goes w.master g.moment (input.Deliver g.message) g.refused

    u : IsUpToLog IsFoundRows IsRowedLog rows_kept w.master
    u = (logged_here IsFoundRows IsRowedLog rows_kept config servers clients w r).1.up g.up

    end :
        IsRowing start.disk (core_of d) × AreWaiting d.master.logged d.master.attempts d.master.snapshots × (AllOf IsPlain d.changes → IsThere start.logged handle version file unsourced d.master.logged d.changes)
    end =
        goes_acts NoneEnded (IsRowing start.disk) (Stays start.logged handle version file unsourced) start g.moment (input.Deliver g.message) g.refused (rowing_keeps start.disk) (λ c n. n) (staying_acts start.logged handle version file unsourced start.disk)
        (any_input (input.Deliver g.message)) (logged_here IsFoundRows IsRowedLog rows_kept config servers clients w r).1 g.up (waits_here config servers clients w r)
        (record { none = u.idle; disk = refl; same = u.same; tied = u.tied; stops = (logged_here IsFoundRows IsRowedLog rows_kept config servers clients w r).1.found [] })
        (λ all. record { copies = λ copy x is. is; row = λ has. absurd has; there = λ has. has })

-- what is attempted is no copy's source
pub unsourced_here : (config : Config) (servers clients : ℕ) (w : WorldState) → IsReached config servers clients w → IsTrue w.observer.are_clocks_kept → IsTrue w.master.up → (handle version : ℕ) → IsAttempted w.master handle version → IsSourceOf w.master.logged handle → ⊥
unsourced_here config servers clients w r clocks up handle version attempted source =
    none_some attempted.attempt (sym (copied_chunks_have_no_lease config servers clients w r clocks up source.0 source.1 source.2).0 ∙ ap (λ (n : ℕ). table.get w.master.attempts n) source.3 ∙ attempted.at)

pub granted_chunks_stay : GrantedChunksStay
granted_chunks_stay config servers clients w r clocks e choice handle version new =
    let g : IsGrantingStep w handle version (happens w e choice).world.master = granting_step config servers clients w r clocks handle version e choice new in
    let stays = granted_stays config servers clients w r handle version (happens w e choice).world.master g (unsourced_here config servers clients w r clocks g.up handle version g.attempted) in
    (g.up, g.attempted, (stays 0).0, λ file handles is. (stays file).1 (handles, is))
