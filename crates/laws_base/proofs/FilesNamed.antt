-- Each file has one name, and each name's file is there: what each change of the names and the files keeps.
use Rattle.std.proofs.Common.{◌≡◌, ◌⊎◌, ⊎_elim, ℕ, suc, ◌≤◌, ◌<◌, Bool, true, false, cond, List, [], ◌∷◌, Option, Some, None, is_some, refl, sym, ap, subst, ◌∙◌, inl, inr, arith}
use Rattle.std.specs.Prelude.{◌==◌, map, filter, find}
use Rattle.std.specs.List.{AllByRecursion}
use Rattle.std.specs.Cmp.{nat_cmp_total, unsigned_tied}
use Rattle.std.proofs.lemmas.Bool.{true≢false, eqb-true, eqb-false}
use Rattle.std.specs.FinMap as table
use Rattle.gfs_types.specs.Paths.{Path, last_digits, hidden_name}
use Rattle.relaxed_file.specs.Names.{Names, Node, Dir, File, node_at, is_dir_node, is_taken, is_dir, copied_entries, with_copies, id_after, id_after_all, copy_of_node}
use Rattle.relaxed_file.specs.NameStep.{is_in_trash}
use Rattle.relaxed_file.proofs.NamesTree.{Tree, HasAt, inserted_there, inserted_other, removed_other, removed_there, same_or_other, not_hidden, entry_is, found_at}
use Rattle.gfs_types.specs.Counters.{counter_limit}
use Rattle.protocol.specs.Tables.{Table}
use Rattle.chunk_table.specs.ChunkTable.{ChunkTable, handles_of}
use Rattle.protocol.specs.Logged.{is_this_file, name_removed, without_file, with_copied_node, with_copied_nodes}
use Rattle.laws_base.proofs.Steps.{none_some, same_some}
use Rattle.laws_base.proofs.Entries.{AllOf, same_number}
use Rattle.laws_base.proofs.Namespace.{found_file}
use Rattle.laws_base.proofs.HiddenNames.{same_id_written}

abbrev pub Files : Type 0
Files = Table (List ℕ)

abbrev pub IsNameOf : Names → Path → ℕ → Type 0
IsNameOf names p id = node_at names p ≡ Some (File id)

-- the file is there
abbrev pub HasFile : Files → ℕ → Type 0
HasFile files id = table.contains_key files id ≡ true

-- Names and files are in bijection; files are numbered below the next number, and a hidden name has its file's digits.
pub record AreNamed (names : Names) (next : ℕ) (files : Files) : Type 0 where
  pub numbered : (p : Path) (id : ℕ) → IsNameOf names p id → id < next
  pub one : (p q : Path) (id : ℕ) → IsNameOf names p id → IsNameOf names q id → p ≡ q
  pub hides : (moment id other : ℕ) → IsNameOf names (hidden_name moment id) other → last_digits 16 16 id ≡ last_digits 16 16 other
  pub there : (p : Path) (id : ℕ) → IsNameOf names p id → HasFile files id
  pub named : (id : ℕ) → HasFile files id → (p : Path) × IsNameOf names p id

-- look-ups

put_cases : (names : Names) (p : Path) (v : Node) (q : Path) (w : Node) → node_at (table.insert names p v) q ≡ Some w → ((q ≡ p) × (v ≡ w)) ⊎ ((q ≡ p → ⊥) × (node_at names q ≡ Some w))
put_cases names p v q w h =
    ⊎_elim (λ same. inl (same, same_some v w (sym (inserted_there names p v q same) ∙ h))) (λ other. inr (other, sym (inserted_other names p v q other) ∙ h)) (same_or_other q p)

left_cases : (names : Names) (p q : Path) (w : Node) → node_at (table.remove names p) q ≡ Some w → (q ≡ p → ⊥) × (node_at names q ≡ Some w)
left_cases names p q w h =
    ⊎_elim (λ same. none_some w (sym (removed_there names p q same) ∙ h)) (λ other. (other, sym (removed_other names p q other) ∙ h)) (same_or_other q p)

dir_no_file : (id : ℕ) → Dir ≡ File id → ⊥
dir_no_file id h = true≢false (ap (λ (n : Node). is_dir_node (Some n)) h)

same_file : (a b : ℕ) → File a ≡ File b → a ≡ b
same_file a b h = cc

free_no_file : (names : Names) (p : Path) (w : Node) → is_taken names p ≡ false → node_at names p ≡ Some w → ⊥
free_no_file names p w free h = true≢false (sym (ap is_some h) ∙ free)

dir_is_no_file : (names : Names) (p : Path) (id : ℕ) → is_dir names p ≡ true → IsNameOf names p id → ⊥
dir_is_no_file names p id dir h = true≢false (sym dir ∙ ap is_dir_node h)

pub split_key : (files : Files) (n : ℕ) (hs : List ℕ) (id : ℕ) → HasFile (table.insert files n hs) id → (id ≡ n) ⊎ HasFile files id
split_key files n hs id h = by_key (id == n) refl (sym (ap is_some (table.get-insert nat_cmp_total files n hs id ∙ ap (λ (b : Bool). cond b (Some hs) (table.get files id)) (unsigned_tied id n))) ∙ h)
  where
    by_key : (b : Bool) → (id == n) ≡ b → is_some (cond b (Some hs) (table.get files id)) ≡ true → (id ≡ n) ⊎ HasFile files id
    by_key true e g = inl (eqb-true id n e)
    by_key false e g = inr g

pub put_key : (files : Files) (n : ℕ) (hs : List ℕ) (id : ℕ) → (id ≡ n) ⊎ HasFile files id → HasFile (table.insert files n hs) id
put_key files n hs id h = ap is_some (table.get-insert nat_cmp_total files n hs id ∙ ap (λ (b : Bool). cond b (Some hs) (table.get files id)) (unsigned_tied id n)) ∙ by_key (id == n) refl
  where
    by_key : (b : Bool) → (id == n) ≡ b → is_some (cond b (Some hs) (table.get files id)) ≡ true
    by_key true e = refl
    by_key false e = ⊎_elim (λ same. absurd (eqb-false id n e same)) (λ before. before) h

gone_key : (files : Files) (n id : ℕ) → HasFile (table.remove files n) id → (id ≡ n → ⊥) × HasFile files id
gone_key files n id h = by_key (id == n) refl (sym (ap is_some (table.get-remove nat_cmp_total files n id ∙ ap (λ (b : Bool). cond b None (table.get files id)) (unsigned_tied id n))) ∙ h)
  where
    by_key : (b : Bool) → (id == n) ≡ b → is_some (cond b None (table.get files id)) ≡ true → (id ≡ n → ⊥) × HasFile files id
    by_key true e g = absurd (true≢false (sym g))
    by_key false e g = (eqb-false id n e, g)

pub left_key : (files : Files) (n id : ℕ) → (id ≡ n → ⊥) → HasFile files id → HasFile (table.remove files n) id
left_key files n id other h = ap is_some (table.get-remove nat_cmp_total files n id ∙ ap (λ (b : Bool). cond b None (table.get files id)) (unsigned_tied id n)) ∙ by_key (id == n) refl
  where
    by_key : (b : Bool) → (id == n) ≡ b → is_some (cond b None (table.get files id)) ≡ true
    by_key true e = absurd (other (eqb-true id n e))
    by_key false e = h

-- changes

pub dir_put : (names : Names) (next : ℕ) (files : Files) (p : Path) → is_taken names p ≡ false → AreNamed names next files → AreNamed (table.insert names p Dir) next files
dir_put names next files p free h =
    record {
      numbered = λ q id is. h.numbered q id (before q id is);
      one = λ q r id is also. h.one q r id (before q id is) (before r id also);
      hides = λ moment id other is. h.hides moment id other (before (hidden_name moment id) other is);
      there = λ q id is. h.there q id (before q id is);
      named = λ id has. let is = h.named id has in (is.0, inserted_other names p Dir is.0 (λ same. free_no_file names p (File id) free (subst (λ (q : Path). IsNameOf names q id) same is.1)) ∙ is.1);
    }
  where
    before : (q : Path) (id : ℕ) → IsNameOf (table.insert names p Dir) q id → IsNameOf names q id
    before q id is = elim (put_cases names p Dir q (File id) is) [ inl both ↦ absurd (dir_no_file id both.1) | inr old ↦ old.1 ]

pub dir_gone : (names : Names) (next : ℕ) (files : Files) (p : Path) → is_dir names p ≡ true → AreNamed names next files → AreNamed (table.remove names p) next files
dir_gone names next files p dir h =
    record {
      numbered = λ q id is. h.numbered q id (left_cases names p q (File id) is).1;
      one = λ q r id is also. h.one q r id (left_cases names p q (File id) is).1 (left_cases names p r (File id) also).1;
      hides = λ moment id other is. h.hides moment id other (left_cases names p (hidden_name moment id) (File other) is).1;
      there = λ q id is. h.there q id (left_cases names p q (File id) is).1;
      named = λ id has. let is = h.named id has in (is.0, removed_other names p is.0 (λ same. dir_is_no_file names p id dir (subst (λ (q : Path). IsNameOf names q id) same is.1)) ∙ is.1);
    }

-- a new file under a new name
pub file_put : (names : Names) (next later : ℕ) (files : Files) (p : Path) (hs : List ℕ) → is_taken names p ≡ false → ((moment id : ℕ) → hidden_name moment id ≡ p → ⊥) → next < later
    → AreNamed names next files → AreNamed (table.insert names p (File next)) later (table.insert files next hs)
file_put names next later files p hs free plain more h =
    record {
      numbered = λ q id is.
          elim (cases q id is) [
            | inl now ↦ let same = now.1 in omega (arith, same, more)
            | inr old ↦ let low = h.numbered q id old.1 in omega (arith, low, more)
          ];
      one = λ q r id is also.
          elim (cases q id is) [
            | inl now ↦ elim (cases r id also) [
              | inl too ↦ now.0 ∙ sym too.0
              | inr old ↦ absurd (let low = h.numbered r id old.1 in let same = now.1 in omega (arith, low, same))
            ]
            | inr old ↦ elim (cases r id also) [
              | inl now ↦ absurd (let low = h.numbered q id old.1 in let same = now.1 in omega (arith, low, same))
              | inr too ↦ h.one q r id old.1 too.1
            ]
          ];
      hides = λ moment id other is.
          elim (cases (hidden_name moment id) other is) [
            | inl now ↦ absurd (plain moment id now.0)
            | inr old ↦ h.hides moment id other old.1
          ];
      there = λ q id is.
          put_key files next hs id (elim (cases q id is) [
            | inl now ↦ inl (sym now.1)
            | inr old ↦ inr (h.there q id old.1)
          ]);
      named = λ id has.
          elim (split_key files next hs id has) [
            | inl same ↦ (p, inserted_there names p (File next) p refl ∙ ap (λ (n : ℕ). Some (File n)) (sym same))
            | inr before ↦
                let is = h.named id before in
                (is.0, inserted_other names p (File next) is.0 (λ same. free_no_file names p (File id) free (subst (λ (q : Path). IsNameOf names q id) same is.1)) ∙ is.1)
          ];
    }
  where
    cases : (q : Path) (id : ℕ) → IsNameOf (table.insert names p (File next)) q id → ((q ≡ p) × (next ≡ id)) ⊎ ((q ≡ p → ⊥) × IsNameOf names q id)
    cases q id is = elim (put_cases names p (File next) q (File id) is) [ inl both ↦ inl (both.0, same_file next id both.1) | inr old ↦ inr old ]

-- a file under another name
pub file_moved : (names : Names) (next : ℕ) (files : Files) (p q : Path) (id : ℕ) → IsNameOf names p id → is_taken names q ≡ false
    → ((moment other : ℕ) → hidden_name moment other ≡ q → last_digits 16 16 other ≡ last_digits 16 16 id) → AreNamed names next files → AreNamed (table.insert (table.remove names p) q (File id)) next files
file_moved names next files p q id at free digits h =
    record {
      numbered = λ r n is.
          elim (cases r n is) [
            | inl now ↦ let same = now.1 in let low = h.numbered p id at in omega (arith, same, low)
            | inr old ↦ h.numbered r n old.1
          ];
      one = λ r s n is also.
          elim (cases r n is) [
            | inl now ↦ elim (cases s n also) [
              | inl too ↦ now.0 ∙ sym too.0
              | inr old ↦ absurd (old.0 (h.one s p n old.1 (subst (λ (k : ℕ). IsNameOf names p k) now.1 at)))
            ]
            | inr old ↦ elim (cases s n also) [
              | inl now ↦ absurd (old.0 (h.one r p n old.1 (subst (λ (k : ℕ). IsNameOf names p k) now.1 at)))
              | inr too ↦ h.one r s n old.1 too.1
            ]
          ];
      hides = λ moment other n is.
          elim (cases (hidden_name moment other) n is) [
            | inl now ↦ digits moment other now.0 ∙ ap (last_digits 16 16) now.1
            | inr old ↦ h.hides moment other n old.1
          ];
      there = λ r n is.
          elim (cases r n is) [
            | inl now ↦ subst (λ (k : ℕ). HasFile files k) now.1 (h.there p id at)
            | inr old ↦ h.there r n old.1
          ];
      named = λ n has. let is = h.named n has in ⊎_elim
          (λ same. (
            q,
            inserted_there (table.remove names p) q (File id) q refl ∙ sym at ∙ sym (ap (node_at names) same) ∙ is.1,
          ))
          (λ other. (
            is.0,
            inserted_other (table.remove names p) q (File id) is.0 (λ same. free_no_file names q (File n) free (subst (λ (r : Path). IsNameOf names r n) same is.1)) ∙ removed_other names p is.0 other ∙ is.1,
          ))
          (same_or_other is.0 p);
    }
  where
    cases : (r : Path) (n : ℕ) → IsNameOf (table.insert (table.remove names p) q (File id)) r n → ((r ≡ q) × (id ≡ n)) ⊎ ((r ≡ p → ⊥) × IsNameOf names r n)
    cases r n is = elim (put_cases (table.remove names p) q (File id) r (File n) is) [
      | inl both ↦ inl (both.0, same_file id n both.1)
      | inr old ↦ inr (left_cases names p r (File n) old.1)
    ]

-- a deleted file's hidden name is free
pub hidden_is_free : (names : Names) (next : ℕ) (files : Files) (p : Path) (moment id : ℕ) → Tree names → next ≤ counter_limit → IsNameOf names p id → is_in_trash p ≡ false → AreNamed names next files
    → is_taken names (hidden_name moment id) ≡ false
hidden_is_free names next files p moment id tree bound at outside h = by_node (node_at names (hidden_name moment id)) refl
  where
    by_node : (o : Option Node) → node_at names (hidden_name moment id) ≡ o → is_taken names (hidden_name moment id) ≡ false
    by_node None is = ap is_some is
    by_node (Some Dir) is = absurd (true≢false (sym (ap is_dir_node is) ∙ tree.hidden_are_files moment id))
    by_node (Some (File other)) is =
        let same : id ≡ other = same_id_written id other next (h.numbered p id at) (h.numbered (hidden_name moment id) other is) bound (h.hides moment id other is) in
        absurd (not_hidden p outside moment id (h.one (hidden_name moment id) p id (is ∙ ap (λ (n : ℕ). Some (File n)) (sym same)) at))

-- no name is this file's where none is found
none_named : (file : ℕ) (es : List (Path × Node)) (p : Path) → find (λ e. is_this_file file e.1) es ≡ None → HasAt es p (File file) → ⊥
none_named file [] p none has = has
none_named file (e ∷ es) p none has = by_test (is_this_file file e.1) refl (none_named file es p) none has
  where
    by_test : (b : Bool) → is_this_file file e.1 ≡ b → (find (λ x. is_this_file file x.1) es ≡ None → HasAt es p (File file) → ⊥) → cond b (Some e) (find (λ x. is_this_file file x.1) es) ≡ None
        → HasAt (e ∷ es) p (File file) → ⊥
    by_test true is rest g has = none_some e (sym g)
    by_test false is rest g (inl here) = true≢false (sym (ap (is_this_file file) here.1 ∙ same_number file) ∙ is)
    by_test false is rest g (inr later) = rest g later

-- a file and its name go
pub file_gone : (names : Names) (next : ℕ) (files : Files) (file : ℕ) → AreNamed names next files → AreNamed (without_file names file) next (table.remove files file)
file_gone names next files file h = by_name (find (λ e. is_this_file file e.1) (table.entries names)) refl
  where
    at_entry : (e : Path × Node) → HasAt (table.entries names) e.0 e.1 × (e.1 ≡ File file) → IsNameOf names e.0 file
    at_entry e found = entry_is names e.0 e.1 found.0 ∙ ap (λ (n : Node). Some n) found.1

    by_name : (o : Option (Path × Node)) → find (λ e. is_this_file file e.1) (table.entries names) ≡ o → AreNamed (name_removed names o) next (table.remove files file)
    by_name None none =
        record {
          numbered = h.numbered;
          one = h.one;
          hides = h.hides;
          there = λ p id is. left_key files file id (λ same. none_named file (table.entries names) p none (found_at p (table.entries names) (File file) (sym (table.get-entries names p) ∙ is ∙ ap (λ (n : ℕ). Some (File n)) same))) (h.there p id is);
          named = λ id has. h.named id (gone_key files file id has).1;
        }
    by_name (Some e) found =
        let at : IsNameOf names e.0 file = at_entry e (found_file file (table.entries names) e found) in
        record {
          numbered = λ p id is. h.numbered p id (left_cases names e.0 p (File id) is).1;
          one = λ p q id is also. h.one p q id (left_cases names e.0 p (File id) is).1 (left_cases names e.0 q (File id) also).1;
          hides = λ moment id other is. h.hides moment id other (left_cases names e.0 (hidden_name moment id) (File other) is).1;
          there = λ p id is.
              let old = left_cases names e.0 p (File id) is in
              left_key files file id (λ same. old.0 (h.one p e.0 id old.1 (at ∙ ap (λ (n : ℕ). Some (File n)) (sym same)))) (h.there p id old.1);
          named = λ id has.
              let old = gone_key files file id has in
              let is = h.named id old.1 in
              (is.0, removed_other names e.0 is.0 (λ same. old.0 (same_file id file (same_some (File id) (File file) (sym is.1 ∙ ap (node_at names) same ∙ at)))) ∙ is.1);
        }

-- the same files
pub same_files : (names : Names) (next : ℕ) (files more : Files) → ((id : ℕ) → HasFile more id → HasFile files id) → ((id : ℕ) → HasFile files id → HasFile more id) → AreNamed names next files
    → AreNamed names next more
same_files names next files more back forth h =
    record { numbered = h.numbered; one = h.one; hides = h.hides; there = λ p id is. forth id (h.there p id is); named = λ id has. h.named id (back id has) }

pub put_again : (names : Names) (next : ℕ) (files : Files) (n : ℕ) (hs : List ℕ) → HasFile files n → AreNamed names next files → AreNamed names next (table.insert files n hs)
put_again names next files n hs has h =
    same_files names next files (table.insert files n hs)
    (λ id is. elim (split_key files n hs id is) [ inl same ↦ subst (λ (k : ℕ). HasFile files k) (sym same) has | inr before ↦ before ]) (λ id is. put_key files n hs id (inr is)) h

-- what a snapshot copies

-- a name that nothing has, and that hides no file
abbrev pub IsNew : Names → Path → Type 0
IsNew names p = (is_taken names p ≡ false) × ((moment id : ℕ) → hidden_name moment id ≡ p → ⊥)

abbrev pub AreDistinct : List (Path × Node) → Type 0
AreDistinct [] = Unit {0}
AreDistinct (e ∷ es) = AllOf (λ x. x.0 ≡ e.0 → ⊥) es × AreDistinct es

still_new : (names : Names) (p : Path) (v : Node) (es : List (Path × Node)) → AllOf (λ x. x.0 ≡ p → ⊥) es → AllOf (λ x. IsNew names x.0) es → AllOf (λ x. IsNew (table.insert names p v) x.0) es
still_new names p v [] others all = tt
still_new names p v (e ∷ es) others all = ((ap is_some (inserted_other names p v e.0 others.0) ∙ all.0.0, all.0.1), still_new names p v es others.1 all.1)

pub copies_named : (es : List (Path × Node)) (names : Names) (next : ℕ) (t : ChunkTable) → AllOf (λ x. IsNew names x.0) es → AreDistinct es → AreNamed names next t.files
    → AreNamed (with_copies names next es) (id_after_all next es) (with_copied_nodes t next es).files
copies_named [] names next t new distinct h = h
copies_named (e ∷ es) names next t new distinct h =
    copies_named es (table.insert names e.0 (copy_of_node next e.1)) (id_after next e.1) (with_copied_node t next e.1) (still_new names e.0 (copy_of_node next e.1) es distinct.0 new.1) distinct.1 (one e.1)
  where
    one : (n : Node) → AreNamed (table.insert names e.0 (copy_of_node next n)) (id_after next n) (with_copied_node t next n).files
    one Dir = dir_put names next t.files e.0 new.0.0 h
    one (File id) = file_put names next (suc next) t.files e.0 (handles_of t id) new.0.0 new.0.1 (omega arith) h

-- the nodes that are copied are some of the names

some_nodes : (P : Node → Type 0) (test : Path × Node → Bool) (there : Path × Node → Path) (es : List (Path × Node)) → AllByRecursion (λ (e : Path × Node). P e.1) es
    → AllByRecursion (λ (e : Path × Node). P e.1) (map (λ (e : Path × Node). (there e, e.1)) (filter test es))
some_nodes P test there [] all = tt
some_nodes P test there (e ∷ rest) all = by_test (test e) (some_nodes P test there rest all.1)
  where
    by_test : (b : Bool) → AllByRecursion (λ (x : Path × Node). P x.1) (map (λ (x : Path × Node). (there x, x.1)) (filter test rest))
        → AllByRecursion (λ (x : Path × Node). P x.1) (map (λ (x : Path × Node). (there x, x.1)) (cond b (e ∷ filter test rest) (filter test rest)))
    by_test true more = (all.0, more)
    by_test false more = more

all_at_entries : (P : Node → Type 0) (es : List (Path × Node)) → ((p : Path) (v : Node) → HasAt es p v → P v) → AllByRecursion (λ (e : Path × Node). P e.1) es
all_at_entries P [] f = tt
all_at_entries P (e ∷ rest) f = (f e.0 e.1 (inl (refl, refl)), all_at_entries P rest (λ p v h. f p v (inr h)))

pub copied_nodes : (P : Node → Type 0) (names : Names) (from to : Path) → ((p : Path) (v : Node) → node_at names p ≡ Some v → P v) → AllByRecursion (λ (e : Path × Node). P e.1) (copied_entries names from to)
copied_nodes P names from to f = some_nodes P _ _ (table.entries names) (all_at_entries P (table.entries names) (λ p v h. f p v (entry_is names p v h)))
