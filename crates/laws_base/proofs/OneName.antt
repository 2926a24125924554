-- Each file has one name, and each name's file is there, also in the log: at each record, and at a checkpoint that is read again.
use Rattle.std.proofs.Common.{◌≡◌, ◌⊎◌, ℕ, ◌+◌, ◌≤◌, Bool, true, false, cond, List, [], ◌∷◌, ◌++◌, map, length, drop, Option, Some, None, is_some, refl, sym, ap, subst, ◌∙◌, inl, inr, arith}
use Rattle.std.specs.Prelude.{◌==◌, ◌&&◌, ◌||◌, nat_lt, filter, max, T}
use Rattle.std.specs.Ordering.{nat_cmp, eq_by_cmp, is_lt, is_eq}
use Rattle.std.specs.Cmp.Lexicographic.{slice_cmp}
use Rattle.std.specs.Cmp.{nat_cmp_total, unsigned_tied}
use Rattle.std.specs.List.{AllByRecursion}
use Rattle.std.proofs.Math.Nat.{le-max_right}
use Rattle.std.proofs.lemmas.Bool.{true≢false, or_parts, or_right, eqb-true}
use Rattle.std.proofs.lemmas.List.{drop_at, append_cancel_left}
use Rattle.std.proofs.lemmas.Map.Text.{is_eq-slice_cmp}
use Rattle.std.specs.declared.cmp.Ordering.{Ordering}
use Rattle.std.specs.declared.cmp.Ordering.TheVariants.{Less, Equal, Greater}
use Rattle.std.specs.Str.{bytes_eq}
use Rattle.std.specs.FinMap as table
use Rattle.std.specs.FinMap.Entries.{find, is_sorted, below_all}
use Rattle.gfs_types.specs.declared.call.Call.{Call}
use Rattle.gfs_types.specs.declared.call.Call.TheVariants as call
use Rattle.log_records.specs.declared.record.Record.{Record}
use Rattle.log_records.specs.declared.record.Record.TheVariants as log
use Rattle.gfs_types.specs.Paths.{Path, root, trash, is_at_or_below, hidden_name}
use Rattle.relaxed_file.specs.Names.{Names, Node, Dir, File, node_at, is_dir_node, is_taken, is_dir, copied_entries, with_copies, id_after, id_after_all, first_names}
use Rattle.relaxed_file.specs.NameStep.{path_tests, name_tests, refusal_of, is_in_trash, with_node, hidden}
use Rattle.relaxed_file.proofs.PathParts.{same_paths, at_or_below_is}
use Rattle.relaxed_file.proofs.NamesTree.{Tree, HasAt, copy, tests_passed, true_from, not_hidden, copies_are_new, first_look, found_at, entry_is}
use Rattle.gfs_types.specs.Counters.{counter_limit}
use Rattle.protocol.specs.Tables.{Table, removed_all, has_number}
use Rattle.protocol.specs.Sending.{file_id, handle_of}
use Rattle.chunk_table.specs.ChunkTable.{ChunkRow, ChunkTable, handles_of, grant}
use Rattle.protocol.specs.Logged.{Logged, KeptCall, Copy, copies_given_up, first_logged, after_record, after_records, copies_for_file, swapped_in, with_copied_node, with_copied_nodes, checkpoint_of, name_item, node_item, chunk_item, client_item}
use Rattle.laws_base.proofs.Steps.{on_cond, none_some, same_some, put_cases, kept_cases, removed_cases}
use Rattle.laws_base.proofs.Entries.{AllOf, same_number}
use Rattle.laws_base.proofs.Namespace.{IsFree, IsNameDue, TestsOf}
use Rattle.laws_base.proofs.MasterMoves.{IsDue, AreNames}
use Rattle.laws_base.proofs.HiddenNames.{hidden_digits}
use Rattle.laws_base.proofs.FilesNamed.{Files, IsNameOf, HasFile, AreNamed, split_key, put_key, left_key, dir_put, dir_gone, file_put, file_moved, hidden_is_free, file_gone, put_again, IsNew, AreDistinct, copies_named}
use Rattle.laws_base.proofs.LoggedParts.{Parts, parts_of, checkpoint_parts}
use Rattle.laws_base.proofs.OrderNumbers.{after-append}

-- copies are under way for files that are there
abbrev pub AreCopiesOf : Table Copy → Files → Type 0
AreCopiesOf copies files = (handle : ℕ) (c : Copy) → table.get copies handle ≡ Some c → HasFile files c.file

pub record HasOneName (l : Logged) : Type 0 where
  pub named : AreNamed l.names l.next_file l.table.files
  pub copied : AreCopiesOf l.copies l.table.files

abbrev IsDueOf : Logged → Record → Type 0
IsDueOf l (log.Create client n file shape path) = file.0 ≡ l.next_file
IsDueOf l (log.AddChunk file handle) = HasFile l.table.files file.0
IsDueOf l (log.CopyStart file index handle copy copy_version) = HasFile l.table.files file.0
IsDueOf l (log.Epoch epoch) = ⊥
IsDueOf l (log.Counters next_file next_handle epoch) = ⊥
IsDueOf l (log.DirItem path) = ⊥
IsDueOf l (log.FileItem path file shape handles) = ⊥
IsDueOf l (log.ChunkItem handle granted issued primary members) = ⊥
IsDueOf l (log.ClientItem client n refusal) = ⊥
IsDueOf l other = Unit {0}

-- what is known of a record, by the names and the files
record IsFit (l : Logged) (r : Record) : Type 0 where
  due : IsNameDue l.names l.next_file r
  tree : Tree l.names
  table : IsDueOf l r

-- names and files after a record

tests : (names : Names) (c : Call) (h : TestsOf names c) → AllByRecursion (λ t. t.0 ≡ false) (path_tests h.0 c ++ name_tests names c)
tests names c h = tests_passed (path_tests h.0 c ++ name_tests names c) h.1

deleted_named : (names : Names) (next : ℕ) (files : Files) (p : Path) (moment : ℕ) (o : Option Node) → node_at names p ≡ o → Tree names → next ≤ counter_limit → is_in_trash p ≡ false
    → AreNamed names next files → AreNamed (hidden names p moment o) next files
deleted_named names next files p moment None at tree bound outside h = h
deleted_named names next files p moment (Some Dir) at tree bound outside h = h
deleted_named names next files p moment (Some (File id)) at tree bound outside h =
    file_moved names next files p (hidden_name moment id) id at (hidden_is_free names next files p moment id tree bound at outside h) (λ m other same. hidden_digits m moment other id same) h

renamed_named : (names : Names) (next : ℕ) (files : Files) (p q : Path) (o : Option Node) → node_at names p ≡ o → is_taken names p ≡ true → is_dir names p ≡ false → is_in_trash q ≡ false → is_taken names q ≡ false
    → AreNamed names next files → AreNamed (with_node (table.remove names p) q o) next files
renamed_named names next files p q None at taken plain outside free h = absurd (true≢false (sym taken ∙ ap is_some at))
renamed_named names next files p q (Some Dir) at taken plain outside free h = absurd (true≢false (sym (ap is_dir_node at) ∙ plain))
renamed_named names next files p q (Some (File id)) at taken plain outside free h =
    file_moved names next files p q id at free (λ moment other same. absurd (not_hidden q outside moment other same)) h

-- what a snapshot copies is distinct

less_is_apart : (k x : Path) → T (is_lt (slice_cmp nat_cmp k x)) → x ≡ k → ⊥
less_is_apart k x h same = by_order (slice_cmp nat_cmp k k) (is_eq-slice_cmp k k ∙ same_paths k k refl) (subst (λ (y : Path). T (is_lt (slice_cmp nat_cmp k y))) same h)
  where
    by_order : (o : Ordering) → is_eq o ≡ true → T (is_lt o) → ⊥
    by_order Less e l = true≢false (sym e)
    by_order Equal e l = l
    by_order Greater e l = l

both_of_T : (a b : Bool) → T (a && b) → T a × T b
both_of_T true b h = (tt, h)
both_of_T false b h = absurd h

below_apart : (k : Path) (es : List (Path × Node)) → T (below_all (slice_cmp nat_cmp) k es) → AllOf (λ x. x.0 ≡ k → ⊥) es
below_apart k [] h = tt
below_apart k (e ∷ es) h = let parts = both_of_T (is_lt (slice_cmp nat_cmp k e.0)) (below_all (slice_cmp nat_cmp) k es) h in (less_is_apart k e.0 parts.0, below_apart k es parts.1)

pub sorted_distinct : (es : List (Path × Node)) → T (is_sorted (slice_cmp nat_cmp) es) → AreDistinct es
sorted_distinct [] h = tt
sorted_distinct (e ∷ es) h = let parts = both_of_T (below_all (slice_cmp nat_cmp) e.0 es) (is_sorted (slice_cmp nat_cmp) es) h in (below_apart e.0 es parts.0, sorted_distinct es parts.1)

module _ (from to : Path) (no_root : from ≡ root → ⊥) where
  abbrev target : Path → Path
  target p = to ++ drop (length from) p

  same_source : (p q : Path) → is_at_or_below from p ≡ true → is_at_or_below from q ≡ true → target p ≡ target q → p ≡ q
  same_source p q a b same =
      let x = at_or_below_is from p no_root a in
      let y = at_or_below_is from q no_root b in
      let tail_p : drop (length from) p ≡ x.0 = ap (λ (t : Path). drop (length from) t) x.1 ∙ drop_at from x.0 (length from) refl in
      let tail_q : drop (length from) q ≡ y.0 = ap (λ (t : Path). drop (length from) t) y.1 ∙ drop_at from y.0 (length from) refl in
      let tails : drop (length from) p ≡ drop (length from) q = append_cancel_left to (drop (length from) p) (drop (length from) q) same in
      x.1 ∙ ap (λ (t : Path). from ++ t) (sym tail_p ∙ tails ∙ tail_q) ∙ sym y.1

  abbrev copies_in : List (Path × Node) → List (Path × Node)
  copies_in es = map (λ e. (target e.0, e.1)) (filter (λ e. is_at_or_below from e.0) es)

  others_copied : (p : Path) (es : List (Path × Node)) → is_at_or_below from p ≡ true → AllOf (λ (x : Path × Node). x.0 ≡ p → ⊥) es → AllOf (λ (x : Path × Node). x.0 ≡ target p → ⊥) (copies_in es)
  others_copied p [] a all = tt
  others_copied p (e ∷ es) a all =
      on_cond (λ (fs : List (Path × Node)). AllOf (λ (x : Path × Node). x.0 ≡ target p → ⊥) (map (λ f. (target f.0, f.1)) fs)) (is_at_or_below from e.0) (e ∷ filter (λ f. is_at_or_below from f.0) es) (filter (λ f. is_at_or_below from f.0) es)
      (λ b. (λ same. all.0 (same_source e.0 p b a same), others_copied p es a all.1)) (λ _. others_copied p es a all.1)

  copied_distinct : (es : List (Path × Node)) → AreDistinct es → AreDistinct (copies_in es)
  copied_distinct [] h = tt
  copied_distinct (e ∷ es) h =
      on_cond (λ (fs : List (Path × Node)). AreDistinct (map (λ f. (target f.0, f.1)) fs)) (is_at_or_below from e.0) (e ∷ filter (λ f. is_at_or_below from f.0) es) (filter (λ f. is_at_or_below from f.0) es)
      (λ a. (others_copied e.0 es a h.0, copied_distinct es h.1)) (λ _. copied_distinct es h.1)

pub all_has : (P : Path × Node → Type 0) (es : List (Path × Node)) → ((p : Path) (v : Node) → HasAt es p v → P (p, v)) → AllOf P es
all_has P [] f = tt
all_has P (e ∷ es) f = (f e.0 e.1 (inl (refl, refl)), all_has P es (λ p v h. f p v (inr h)))

untaken : (b : Bool) → (b ≡ true → ⊥) → b ≡ false
untaken true h = absurd (h refl)
untaken false h = refl

snapshot_named : (l : Logged) (from to : Path) → Tree l.names → IsFree l.names from to → AreNamed l.names l.next_file l.table.files
    → AreNamed (with_copies l.names l.next_file (copied_entries l.names from to)) (id_after_all l.next_file (copied_entries l.names from to)) (with_copied_nodes l.table l.next_file (copied_entries l.names from to)).files
snapshot_named l from to tree free h =
    let outside : (bytes_eq from root ≡ false) × (is_in_trash from ≡ false) = or_parts _ _ free.open_from in
    copies_named (copied_entries l.names from to) l.names l.next_file l.table
    (all_has (λ x. IsNew l.names x.0) (copied_entries l.names from to)
    (λ p v has. let new = copies_are_new l.names from to tree free.path_from free.path_to free.open_from free.open_to free.above free.free p v has in (untaken (is_taken l.names p) new.1, new.2)))
    (copied_distinct from to (λ same. true≢false (sym (same_paths from root same) ∙ outside.0)) (table.entries l.names) (sorted_distinct (table.entries l.names) (table.entries_sorted l.names))) h

granted_named : (l : Logged) (handle : ℕ) (o : Option Copy) → table.get l.copies handle ≡ o → HasOneName l → AreNamed (swapped_in l handle o).names (swapped_in l handle o).next_file (swapped_in l handle o).table.files
granted_named l handle None is h = h.named
granted_named l handle (Some c) is h = put_again l.names l.next_file l.table.files c.file _ (h.copied handle c is) h.named

fit_named : (l : Logged) (r : Record) → IsFit l r → HasOneName l → AreNamed (after_record l r).names (after_record l r).next_file (after_record l r).table.files
fit_named l (log.Mkdir client n path) fit h = dir_put l.names l.next_file l.table.files path (tests l.names (call.Mkdir path) fit.due).1.1.1.0 h.named
fit_named l (log.Rmdir client n path) fit h = dir_gone l.names l.next_file l.table.files path (true_from (is_dir l.names path) (tests l.names (call.Rmdir path) fit.due).1.1.1.0) h.named
fit_named l (log.Create client n file shape path) fit h =
    let all = tests l.names (call.Create path fit.due.0) fit.due.1 in
    let more = le-max_right l.next_file (l.next_file + 1) in
    subst (λ (k : ℕ). AreNamed (table.insert l.names path (File k)) (max l.next_file (k + 1)) (table.insert l.table.files k [])) (sym fit.table)
    (file_put l.names l.next_file (max l.next_file (l.next_file + 1)) l.table.files path [] all.1.1.1.1.0 (λ moment id same. not_hidden path all.1.1.0 moment id same) (omega (arith, more)) h.named)
fit_named l (log.Delete client n moment path) fit h =
    deleted_named l.names l.next_file l.table.files path moment.0 (node_at l.names path) refl fit.tree fit.due.1 (tests l.names (call.Delete path) fit.due.0).1.0 h.named
fit_named l (log.Rename client n from to) fit h =
    let all = tests l.names (call.Rename from to) fit.due in
    renamed_named l.names l.next_file l.table.files from to (node_at l.names from) refl (true_from (is_taken l.names from) all.1.1.1.0) all.1.1.1.1.0 all.1.1.0 all.1.1.1.1.1.1.0 h.named
fit_named l (log.Snapshot client n from to) fit h = snapshot_named l from to fit.tree fit.due h.named
fit_named l (log.Expired file) fit h = file_gone l.names l.next_file l.table.files file.0 h.named
fit_named l (log.AddChunk file handle) fit h = put_again l.names l.next_file l.table.files file.0 _ fit.table h.named
fit_named l (log.Grant handle version primary members) fit h =
    granted_named (record l { table = grant l.table handle.0 version.0 primary.0 members }) handle.0 (table.get l.copies handle.0) refl (record { named = h.named; copied = h.copied })
fit_named l (log.Issue handle version) fit h = h.named
fit_named l (log.CopyStart file index handle copy copy_version) fit h = h.named
fit_named l (log.Refused client n refusal) fit h = h.named
fit_named l (log.Epoch epoch) fit h = absurd fit.table
fit_named l (log.Counters next_file next_handle epoch) fit h = absurd fit.table
fit_named l (log.DirItem path) fit h = absurd fit.table
fit_named l (log.FileItem path file shape handles) fit h = absurd fit.table
fit_named l (log.ChunkItem handle granted issued primary members) fit h = absurd fit.table
fit_named l (log.ClientItem client n refusal) fit h = absurd fit.table

-- copies after a record

pub all_given_up : {X : Type 0} (t : Table X) (ns : List ℕ) (q : ℕ) → has_number ns q ≡ true → table.get (removed_all t ns) q ≡ None
all_given_up t [] q h = absurd (true≢false (sym h))
all_given_up {X} t (n ∷ ns) q h = by_key (n == q) refl (all_given_up (table.remove t n) ns q) h
  where
    gone_first : (u : Table X) → table.get u q ≡ None → (ms : List ℕ) → (x : X) → table.get (removed_all u ms) q ≡ Some x → ⊥
    gone_first u none ms x is = none_some x (sym none ∙ removed_cases u ms q x is)

    none_left : (o : Option X) → table.get (removed_all (table.remove t n) ns) q ≡ o → n ≡ q → table.get (removed_all (table.remove t n) ns) q ≡ None
    none_left None is same = is
    none_left (Some x) is same =
        absurd (gone_first (table.remove t n) (table.get-remove nat_cmp_total t n q ∙ ap (λ (b : Bool). cond b None (table.get t q)) (unsigned_tied q n ∙ subst (λ (k : ℕ). (q == k) ≡ true) (sym same) (same_number q))) ns x is)

    by_key : (b : Bool) → (n == q) ≡ b → (has_number ns q ≡ true → table.get (removed_all (table.remove t n) ns) q ≡ None) → (n == q) || has_number ns q ≡ true
        → table.get (removed_all (table.remove t n) ns) q ≡ None
    by_key true e rest g = none_left (table.get (removed_all (table.remove t n) ns) q) refl (eqb-true n q e)
    by_key false e rest g = rest (sym (ap (λ (b : Bool). b || has_number ns q) e) ∙ g)

-- the entries of a test, by number
number_kept : (test : Copy → Bool) (es : List (ℕ × Copy)) (q : ℕ) (c : Copy) → find nat_cmp q es ≡ Some c → test c ≡ true → has_number (map (λ e. e.0) (filter (λ e. test e.1) es)) q ≡ true
number_kept test [] q c h passes = none_some c h
number_kept test (e ∷ es) q c h passes = by_key (eq_by_cmp nat_cmp q e.0) refl (number_kept test es q c) h
  where
    has : (b : Bool) → test e.1 ≡ b → (e.0 == q) ≡ true → test e.1 ≡ true → has_number (map (λ x. x.0) (cond b (e ∷ filter (λ x. test x.1) es) (filter (λ x. test x.1) es))) q ≡ true
    has true t same pass = ap (λ (b : Bool). b || has_number (map (λ x. x.0) (filter (λ x. test x.1) es)) q) same
    has false t same pass = absurd (true≢false (sym pass ∙ t))

    more : (b : Bool) → has_number (map (λ x. x.0) (filter (λ x. test x.1) es)) q ≡ true → has_number (map (λ x. x.0) (cond b (e ∷ filter (λ x. test x.1) es) (filter (λ x. test x.1) es))) q ≡ true
    more true g = or_right (e.0 == q) (has_number (map (λ x. x.0) (filter (λ x. test x.1) es)) q) g
    more false g = g

    same_back : eq_by_cmp nat_cmp q e.0 ≡ true → (e.0 == q) ≡ true
    same_back is = subst (λ (k : ℕ). (k == q) ≡ true) (eqb-true q e.0 (sym (unsigned_tied q e.0) ∙ is)) (same_number q)

    by_key : (b : Bool) → eq_by_cmp nat_cmp q e.0 ≡ b → (find nat_cmp q es ≡ Some c → test c ≡ true → has_number (map (λ x. x.0) (filter (λ x. test x.1) es)) q ≡ true) → cond b (Some e.1) (find nat_cmp q es) ≡ Some c
        → has_number (map (λ x. x.0) (filter (λ x. test x.1) (e ∷ es))) q ≡ true
    by_key true is rest g = has (test e.1) refl (same_back is) (ap test (same_some e.1 c g) ∙ passes)
    by_key false is rest g = more (test e.1) (rest g passes)

-- a copy that is left is for another file
pub left_copy : (l : Logged) (file handle : ℕ) (c : Copy) → table.get (removed_all l.copies (copies_for_file l file)) handle ≡ Some c → (c.file ≡ file → ⊥) × (table.get l.copies handle ≡ Some c)
left_copy l file handle c is =
    let before : table.get l.copies handle ≡ Some c = removed_cases l.copies (copies_for_file l file) handle c is in (
      λ same. none_some c (sym (all_given_up l.copies (copies_for_file l file) handle
          (number_kept (λ x. x.file == file) (table.entries l.copies) handle c (sym (table.get-entries l.copies handle) ∙ before) (subst (λ (k : ℕ). (c.file == k) ≡ true) same (same_number c.file)))) ∙ is),
      before,
    )

copied_has : (t : ChunkTable) (next : ℕ) (es : List (Path × Node)) (id : ℕ) → HasFile t.files id → HasFile (with_copied_nodes t next es).files id
copied_has t next [] id h = h
copied_has t next (e ∷ es) id h = copied_has (with_copied_node t next e.1) (id_after next e.1) es id (one e.1)
  where
    one : (n : Node) → HasFile (with_copied_node t next n).files id
    one Dir = h
    one (File source) = put_key t.files next (handles_of t source) id (inr h)

granted_copied : (l : Logged) (handle : ℕ) (o : Option Copy) → HasOneName l → AreCopiesOf (swapped_in l handle o).copies (swapped_in l handle o).table.files
granted_copied l handle None h = h.copied
granted_copied l handle (Some c) h = λ other x is. put_key l.table.files c.file _ x.file (inr (h.copied other x (kept_cases l.copies handle other x is)))

fit_copied : (l : Logged) (r : Record) → IsFit l r → HasOneName l → AreCopiesOf (after_record l r).copies (after_record l r).table.files
fit_copied l (log.Create client n file shape path) fit h = λ handle c is. put_key l.table.files file.0 [] c.file (inr (h.copied handle c is))
fit_copied l (log.Snapshot client n from to) fit h = λ handle c is. copied_has l.table l.next_file (copied_entries l.names from to) c.file (h.copied handle c is)
fit_copied l (log.Expired file) fit h = λ handle c is.
    let old = left_copy l file.0 handle c is in
    left_key l.table.files file.0 c.file old.0 (h.copied handle c old.1)
fit_copied l (log.AddChunk file chunk) fit h = λ handle c is. put_key l.table.files file.0 _ c.file (inr (h.copied handle c is))
fit_copied l (log.Grant chunk version primary members) fit h =
    granted_copied (record l { table = grant l.table chunk.0 version.0 primary.0 members }) chunk.0 (table.get l.copies chunk.0) (record { named = h.named; copied = h.copied })
fit_copied l (log.CopyStart file index source new copy_version) fit h = λ handle c is.
    elim (put_cases l.copies new.0 (record { file = file.0; index = index; source = source.0 }) handle c is) [
      | inl same ↦ subst (λ (x : Copy). HasFile l.table.files x.file) same.1 fit.table
      | inr before ↦ h.copied handle c before
    ]
fit_copied l (log.FileItem path file shape handles) fit h = absurd fit.table
fit_copied l other fit h = h.copied

fit_keeps : (l : Logged) (r : Record) → IsFit l r → HasOneName l → HasOneName (after_record l r)
fit_keeps l r fit h = record { named = fit_named l r fit h; copied = fit_copied l r fit h }

-- what is due in the state is due in the log

table_due : (l : Logged) (r : Record) → IsDue (Unit {0}) l r → IsDueOf l r
table_due l (log.Create client n file shape path) due = due
table_due l (log.AddChunk file handle) due = due.1
table_due l (log.CopyStart file index handle copy copy_version) due = due.1
table_due l (log.Epoch epoch) due = due
table_due l (log.Counters next_file next_handle epoch) due = due
table_due l (log.DirItem path) due = due
table_due l (log.FileItem path file shape handles) due = due
table_due l (log.ChunkItem handle granted issued primary members) due = due
table_due l (log.ClientItem client n refusal) due = due
table_due l other due = tt

same_there : (l k : Logged) (id : ℕ) → l.names ≡ k.names → HasOneName l → HasOneName k → HasFile l.table.files id → HasFile k.table.files id
same_there l k id same h g has = let name = h.named.named id has in g.named.there name.0 id (subst (λ (n : Names). IsNameOf n name.0 id) same name.1)

other_due : (l k : Logged) (r : Record) → l.names ≡ k.names → l.next_file ≡ k.next_file → HasOneName l → HasOneName k → IsDueOf l r → IsDueOf k r
other_due l k (log.Create client n file shape path) same next h g due = due ∙ next
other_due l k (log.AddChunk file handle) same next h g due = same_there l k file.0 same h g due
other_due l k (log.CopyStart file index handle copy copy_version) same next h g due = same_there l k file.0 same h g due
other_due l k (log.Epoch epoch) same next h g due = due
other_due l k (log.Counters next_file next_handle epoch) same next h g due = due
other_due l k (log.DirItem path) same next h g due = due
other_due l k (log.FileItem path file shape handles) same next h g due = due
other_due l k (log.ChunkItem handle granted issued primary members) same next h g due = due
other_due l k (log.ClientItem client n refusal) same next h g due = due
other_due l k other same next h g due = tt

pub records_keep : (l k : Logged) (r : Record) → parts_of l ≡ parts_of k → IsDue (Unit {0}) l r → AreNames l r → HasOneName l → HasOneName k → HasOneName (after_record l r) × HasOneName (after_record k r)
records_keep l k r same due names h g =
    let same_names : l.names ≡ k.names = ap (λ (p : Parts). p.names) same in
    let same_next : l.next_file ≡ k.next_file = ap (λ (p : Parts). p.next_file) same in
    let table : IsDueOf l r = table_due l r due in
    let here : IsFit l r = record { due = names.due; tree = names.before; table = table } in
    let there : IsFit k r = record {
      due = subst (λ (n : ℕ). IsNameDue k.names n r) same_next (subst (λ (n : Names). IsNameDue n l.next_file r) same_names names.due);
      tree = subst (λ (n : Names). Tree n) same_names names.before;
      table = other_due l k r same_names same_next h g table;
    } in
    (fit_keeps l r here h, fit_keeps k r there g)

-- a checkpoint, read again

items_kept : (t : ChunkTable) (es : List (Path × Node)) (l : Logged) (id : ℕ) → HasFile l.table.files id → HasFile (after_records l (map (name_item t) es)).table.files id
items_kept t [] l id h = h
items_kept t (e ∷ es) l id h = items_kept t es (after_record l (name_item t e)) id (one e.1)
  where
    one : (n : Node) → HasFile (after_record l (node_item t e.0 n)).table.files id
    one Dir = h
    one (File file) = put_key l.table.files file (handles_of t file) id (inr h)

items_there : (t : ChunkTable) (es : List (Path × Node)) (l : Logged) (p : Path) (id : ℕ) → HasAt es p (File id) → HasFile (after_records l (map (name_item t) es)).table.files id
items_there t [] l p id has = absurd has
items_there t (e ∷ es) l p id (inl here) =
    items_kept t es (after_record l (name_item t e)) id
    (subst (λ (n : Node). HasFile (after_record l (node_item t e.0 n)).table.files id) (sym here.1) (put_key l.table.files id (handles_of t id) id (inl refl)))
items_there t (e ∷ es) l p id (inr later) = items_there t es (after_record l (name_item t e)) p id later

pub items_named : (t : ChunkTable) (es : List (Path × Node)) (l : Logged) (id : ℕ) → HasFile (after_records l (map (name_item t) es)).table.files id → HasFile l.table.files id ⊎ ((p : Path) × HasAt es p (File id))
items_named t [] l id h = inl h
items_named t (e ∷ es) l id h =
    elim (items_named t es (after_record l (name_item t e)) id h) [
      | inl before ↦ one e.1 refl before
      | inr later ↦ inr (later.0, inr later.1)
    ]
  where
    one : (n : Node) → e.1 ≡ n → HasFile (after_record l (node_item t e.0 n)).table.files id → HasFile l.table.files id ⊎ ((p : Path) × HasAt (e ∷ es) p (File id))
    one Dir is has = inl has
    one (File file) is has = elim (split_key l.table.files file (handles_of t file) id has) [
      | inl same ↦ inr (e.0, inl (refl, is ∙ ap (λ (n : ℕ). File n) (sym same)))
      | inr before ↦ inl before
    ]

pub items_copies : (t : ChunkTable) (es : List (Path × Node)) (l : Logged) → (after_records l (map (name_item t) es)).copies ≡ l.copies
items_copies t [] l = refl
items_copies t (e ∷ es) l = items_copies t es (after_record l (name_item t e)) ∙ one e.1
  where
    one : (n : Node) → (after_record l (node_item t e.0 n)).copies ≡ l.copies
    one Dir = refl
    one (File file) = refl

-- files and copies
abbrev pub Kept : Type 0
Kept = Files × Table Copy

abbrev pub kept_of : Logged → Kept
kept_of l = (l.table.files, l.copies)

chunks_keep : (es : List (ℕ × ChunkRow)) (l : Logged) → kept_of (after_records l (map chunk_item es)) ≡ kept_of l
chunks_keep [] l = refl
chunks_keep (e ∷ es) l = chunks_keep es (after_record l (chunk_item e))

clients_keep : (es : List (ℕ × KeptCall)) (l : Logged) → kept_of (after_records l (map client_item es)) ≡ kept_of l
clients_keep [] l = refl
clients_keep (e ∷ es) l = clients_keep es (after_record l (client_item e))

-- a checkpoint's files and copies are those of its names' items
pub checkpoint_kept : (l : Logged)
    → kept_of (after_records first_logged (checkpoint_of l)) ≡ kept_of (after_records (after_record first_logged (log.Counters (file_id l.next_file) (handle_of l.next_handle) l.epoch)) (map (name_item l.table) (table.entries l.names)))
checkpoint_kept l =
    let first : Logged = after_record first_logged (log.Counters (file_id l.next_file) (handle_of l.next_handle) l.epoch) in
    let names : List Record = map (name_item l.table) (table.entries l.names) in
    let rows : List (ℕ × ChunkRow) = filter (λ e. nat_lt 0 e.1.references) (table.entries l.table.chunks) in
    let one : Logged = after_records first names in
    let two : Logged = after_records one (map chunk_item rows) in
    let to_two : after_records first (names ++ map chunk_item rows) ≡ two = after-append first names (map chunk_item rows) in
    ap (λ (j : Logged). kept_of j) (after-append first (names ++ map chunk_item rows) (map client_item (table.entries l.kept)))
    ∙ ap (λ (j : Logged). kept_of (after_records j (map client_item (table.entries l.kept)))) to_two
    ∙ clients_keep (table.entries l.kept) two ∙ chunks_keep rows one

pub checkpoint_keep : (l : Logged) → Tree l.names → HasOneName l → HasOneName (after_records first_logged (checkpoint_of l))
checkpoint_keep l tree h =
    let k : Logged = after_records first_logged (checkpoint_of l) in
    let first : Logged = after_record first_logged (log.Counters (file_id l.next_file) (handle_of l.next_handle) l.epoch) in
    let one : Logged = after_records first (map (name_item l.table) (table.entries l.names)) in
    let same : kept_of k ≡ kept_of one = checkpoint_kept l in
    let files : k.table.files ≡ one.table.files = ap (λ (x : Kept). x.0) same in
    let no_copies : k.copies ≡ table.empty = ap (λ (x : Kept). x.1) same ∙ items_copies l.table (table.entries l.names) first in
    let parts : parts_of k ≡ parts_of l = checkpoint_parts l tree in
    let same_names : k.names ≡ l.names = ap (λ (p : Parts). p.names) parts in
    let same_next : k.next_file ≡ l.next_file = ap (λ (p : Parts). p.next_file) parts in
    let named : AreNamed l.names l.next_file one.table.files = record {
      numbered = h.named.numbered;
      one = h.named.one;
      hides = h.named.hides;
      there = λ p id is. items_there l.table (table.entries l.names) first p id (found_at p (table.entries l.names) (File id) (sym (table.get-entries l.names p) ∙ is));
      named = λ id has. elim (items_named l.table (table.entries l.names) first id has) [
        | inl before ↦ absurd (true≢false (sym before ∙ ap is_some (table.get-empty nat_cmp id)))
        | inr there ↦ (there.0, entry_is l.names there.0 (File id) there.1)
      ];
    } in
    record {
      named = subst (λ (n : Names). AreNamed n k.next_file k.table.files) (sym same_names)
          (subst (λ (n : ℕ). AreNamed l.names n k.table.files) (sym same_next) (subst (λ (f : Files). AreNamed l.names l.next_file f) (sym files) named));
      copied = λ handle c is. none_some c (sym (ap (λ (t : Table Copy). table.get t handle) no_copies ∙ table.get-empty nat_cmp handle) ∙ is);
    }

first_no_file : (p : Path) (id : ℕ) → IsNameOf first_names p id → ⊥
first_no_file p id is = by_root (bytes_eq p root) (bytes_eq p trash) (sym (first_look p) ∙ is)
  where
    no_dir : Some Dir ≡ Some (File id) → ⊥
    no_dir e = true≢false (ap is_dir_node e)

    by_root : (a b : Bool) → cond a (Some Dir) (cond b (Some Dir) None) ≡ Some (File id) → ⊥
    by_root true b e = no_dir e
    by_root false true e = no_dir e
    by_root false false e = none_some (File id) e

pub first_one_name : HasOneName first_logged
first_one_name =
    record {
      named = record {
        numbered = λ p id is. absurd (first_no_file p id is);
        one = λ p q id is also. absurd (first_no_file p id is);
        hides = λ moment id other is. absurd (first_no_file (hidden_name moment id) other is);
        there = λ p id is. absurd (first_no_file p id is);
        named = λ id has. absurd (true≢false (sym has ∙ ap is_some (table.get-empty nat_cmp id)));
      };
      copied = λ handle c is. none_some c (sym (table.get-empty nat_cmp handle) ∙ is);
    }

pub less_keep : (l : Logged) (handles : List ℕ) → HasOneName l → HasOneName (copies_given_up l handles)
less_keep l handles h = record { named = h.named; copied = λ handle c is. h.copied handle c (removed_cases l.copies handles handle c is) }
