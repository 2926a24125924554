-- The master's files are those that are there at the machine: at a new file, at copies, and at one that is collected.
use Rattle.std.proofs.Common.{◌≡◌, ⊎_elim, ℕ, suc, ◌≤◌, ◌<◌, Bool, true, false, cond, List, [], ◌∷◌, Some, None, is_some, refl, sym, ap, subst, ◌∙◌, inl, inr, arith}
use Rattle.std.specs.Prelude.{◌==◌, ◌&&◌, nat_lt, nat_le, not}
use Rattle.std.specs.List.{AllByRecursion}
use Rattle.std.specs.Cmp.{nat_cmp_total, unsigned_tied}
use Rattle.std.proofs.lemmas.Bool.{true≢false, and_parts, and_from, ltb-true, ltb-false, lt-ltb, leb-true, le-leb, eqb-true, eqb-false}
use Rattle.std.specs.FinMap as table
use Rattle.gfs_types.specs.Paths.{Path}
use Rattle.relaxed_file.specs.Names.{Node, Dir, File, id_after, id_after_all}
use Rattle.relaxed_file.specs.Machine.{Machine, FileState, put}
use Rattle.relaxed_file.specs.NameStep.{with_copied_file, with_copied_files}
use Rattle.relaxed_file.proofs.Tables.{put_is, put_other}
use Rattle.protocol.specs.Tables.{Table}
use Rattle.chunk_table.specs.ChunkTable.{ChunkTable}
use Rattle.protocol.specs.Logged.{with_copied_node, with_copied_nodes}
use Rattle.laws_names.specs.Alike.{is_there}
use Rattle.laws_names.proofs.OpenCalls.{same_or_not}

abbrev Files : Type 0
Files = Table (List ℕ)

abbrev pub HasKey : Files → ℕ → Type 0
HasKey files file = table.contains_key files file ≡ true

-- a file that was made before the next one, and not collected
abbrev pub IsIn : (ℕ → FileState) → ℕ → ℕ → Type 0
IsIn states next file = (0 < file) × (file < next) × ((states file).is_collected ≡ false)

-- the same files
abbrev pub AreIn : Files → (ℕ → FileState) → ℕ → Type 0
AreIn files states next = (file : ℕ) → (HasKey files file → IsIn states next file) × (IsIn states next file → HasKey files file)

negated : (b : Bool) → not b ≡ true → b ≡ false
negated true h = absurd (true≢false (sym h))
negated false h = refl

pub same_truth : (a b : Bool) → (a ≡ true → b ≡ true) → (b ≡ true → a ≡ true) → a ≡ b
same_truth true b f g = sym (f refl)
same_truth false true f g = g refl
same_truth false false f g = refl

there_in : (m : Machine) (file : ℕ) → is_there m file ≡ true → IsIn m.files (suc m.file_count) file
there_in m file h =
    let parts = and_parts (nat_lt 0 file && nat_le file m.file_count) (not (m.files file).is_collected) h in
    let bounds = and_parts (nat_lt 0 file) (nat_le file m.file_count) parts.0 in
    let low : file ≤ m.file_count = leb-true file m.file_count bounds.1 in
    (ltb-true 0 file bounds.0, omega (arith, low), negated (m.files file).is_collected parts.1)

in_there : (m : Machine) (file : ℕ) → IsIn m.files (suc m.file_count) file → is_there m file ≡ true
in_there m file h =
    let low = h.1 in
    and_from (nat_lt 0 file && nat_le file m.file_count) (not (m.files file).is_collected)
    (and_from (nat_lt 0 file) (nat_le file m.file_count) (lt-ltb 0 file h.0) (le-leb file m.file_count (omega (arith, low)))) (ap not h.2)

pub files_in : (files : Files) (m : Machine) → ((file : ℕ) → table.contains_key files file ≡ is_there m file) → AreIn files m.files (suc m.file_count)
files_in files m h file = (λ has. there_in m file (sym (h file) ∙ has), λ is. h file ∙ in_there m file is)

pub files_alike : (files : Files) (m : Machine) → AreIn files m.files (suc m.file_count) → (file : ℕ) → table.contains_key files file ≡ is_there m file
files_alike files m h file = same_truth (table.contains_key files file) (is_there m file) (λ has. in_there m file ((h file).0 has)) (λ is. (h file).1 (there_in m file is))

-- keys

at_put : (files : Files) (n : ℕ) (hs : List ℕ) (q : ℕ) → table.contains_key (table.insert files n hs) q ≡ is_some (cond (q == n) (Some hs) (table.get files q))
at_put files n hs q = ap is_some (table.get-insert nat_cmp_total files n hs q ∙ ap (λ (b : Bool). cond b (Some hs) (table.get files q)) (unsigned_tied q n))

at_removed : (files : Files) (n q : ℕ) → table.contains_key (table.remove files n) q ≡ is_some (cond (q == n) None (table.get files q))
at_removed files n q = ap is_some (table.get-remove nat_cmp_total files n q ∙ ap (λ (b : Bool). cond b None (table.get files q)) (unsigned_tied q n))

key_put : (files : Files) (n : ℕ) (hs : List ℕ) (q : ℕ) → q ≡ n → HasKey (table.insert files n hs) q
key_put files n hs q same = at_put files n hs q ∙ by_key (q == n) refl
  where
    by_key : (b : Bool) → (q == n) ≡ b → is_some (cond b (Some hs) (table.get files q)) ≡ true
    by_key true e = refl
    by_key false e = absurd (eqb-false q n e same)

pub key_other : (files : Files) (n : ℕ) (hs : List ℕ) (q : ℕ) → (q ≡ n → ⊥) → table.contains_key (table.insert files n hs) q ≡ table.contains_key files q
key_other files n hs q other = at_put files n hs q ∙ by_key (q == n) refl
  where
    by_key : (b : Bool) → (q == n) ≡ b → is_some (cond b (Some hs) (table.get files q)) ≡ table.contains_key files q
    by_key true e = absurd (other (eqb-true q n e))
    by_key false e = refl

pub key_gone : (files : Files) (n q : ℕ) → q ≡ n → table.contains_key (table.remove files n) q ≡ false
key_gone files n q same = at_removed files n q ∙ by_key (q == n) refl
  where
    by_key : (b : Bool) → (q == n) ≡ b → is_some (cond b None (table.get files q)) ≡ false
    by_key true e = refl
    by_key false e = absurd (eqb-false q n e same)

pub key_left : (files : Files) (n q : ℕ) → (q ≡ n → ⊥) → table.contains_key (table.remove files n) q ≡ table.contains_key files q
key_left files n q other = at_removed files n q ∙ by_key (q == n) refl
  where
    by_key : (b : Bool) → (q == n) ≡ b → is_some (cond b None (table.get files q)) ≡ table.contains_key files q
    by_key true e = absurd (other (eqb-true q n e))
    by_key false e = refl

-- a list of chunks that is put again
pub put_again : (files : Files) (n : ℕ) (hs : List ℕ) (q : ℕ) → HasKey files n → table.contains_key (table.insert files n hs) q ≡ table.contains_key files q
put_again files n hs q has = ⊎_elim (λ same. key_put files n hs q same ∙ sym (ap (λ (k : ℕ). table.contains_key files k) same ∙ has)) (λ other. key_other files n hs q other) (same_or_not q n)

apart : (next q : ℕ) → q < suc next → (q ≡ next → ⊥) → q < next
apart next q l other = by_test (nat_lt q next) refl
  where
    by_test : (b : Bool) → nat_lt q next ≡ b → q < next
    by_test true e = ltb-true q next e
    by_test false e = let late = ltb-false q next e in absurd (other (omega (arith, late, l)))

-- one more file, which is not collected
pub file_in : (files : Files) (states : ℕ → FileState) (next : ℕ) (hs : List ℕ) (state : FileState) → 0 < next → state.is_collected ≡ false → AreIn files states next
    → AreIn (table.insert files next hs) (put next state states) (suc next)
file_in files states next hs state low plain h q = ⊎_elim
    (λ same. (λ has. (subst (λ (k : ℕ). 0 < k) (sym same) low, omega (arith, same), ap (λ (s : FileState). s.is_collected) (put_is next state states q same) ∙ plain), λ is. key_put files next hs q same))
    (λ other.
    let keeps : put next state states q ≡ states q = put_other next state states q other in (
      λ has. let old = (h q).0 (sym (key_other files next hs q other) ∙ has) in let below = old.1 in (old.0, omega (arith, below), ap (λ (s : FileState). s.is_collected) keeps ∙ old.2),
      λ is. key_other files next hs q other ∙ (h q).1 (is.0, apart next q is.1 other, ap (λ (s : FileState). s.is_collected) (sym keeps) ∙ is.2),
    ))
    (same_or_not q next)

-- a file that is collected
pub file_out : (files : Files) (states : ℕ → FileState) (next file : ℕ) (state : FileState) → state.is_collected ≡ true → AreIn files states next → AreIn (table.remove files file) (put file state states) next
file_out files states next file state gone h q = ⊎_elim
    (λ same. (λ has. absurd (true≢false (sym has ∙ key_gone files file q same)), λ is. absurd (true≢false (sym (ap (λ (s : FileState). s.is_collected) (put_is file state states q same) ∙ gone) ∙ is.2))))
    (λ other.
    let keeps : put file state states q ≡ states q = put_other file state states q other in (
      λ has. let old = (h q).0 (sym (key_left files file q other) ∙ has) in (old.0, old.1, ap (λ (s : FileState). s.is_collected) keeps ∙ old.2),
      λ is. key_left files file q other ∙ (h q).1 (is.0, is.1, ap (λ (s : FileState). s.is_collected) (sym keeps) ∙ is.2),
    ))
    (same_or_not q file)

-- copies

abbrev pub IsNodeIn : (ℕ → FileState) → ℕ → Node → Type 0
IsNodeIn states next Dir = Unit {0}
IsNodeIn states next (File id) = IsIn states next id

abbrev pub AreNodesIn : (ℕ → FileState) → ℕ → List (Path × Node) → Type 0
AreNodesIn states next es = AllByRecursion (λ e. IsNodeIn states next e.1) es

node_stays : (states : ℕ → FileState) (next : ℕ) (state : FileState) (node : Node) → IsNodeIn states next node → IsNodeIn (put next state states) (suc next) node
node_stays states next state Dir h = tt
node_stays states next state (File id) h =
    let low = h.1 in
    (h.0, omega (arith, low), ap (λ (s : FileState). s.is_collected) (put_other next state states id (λ same. absurd (omega (arith, low, same)))) ∙ h.2)

nodes_stay : (states : ℕ → FileState) (next : ℕ) (state : FileState) (es : List (Path × Node)) → AreNodesIn states next es → AreNodesIn (put next state states) (suc next) es
nodes_stay states next state [] h = tt
nodes_stay states next state (e ∷ rest) h = (node_stays states next state e.1 h.0, nodes_stay states next state rest h.1)

pub copies_in : (es : List (Path × Node)) (t : ChunkTable) (states : ℕ → FileState) (next : ℕ) → 0 < next → AreNodesIn states next es → AreIn t.files states next
    → AreIn (with_copied_nodes t next es).files (with_copied_files states next es) (id_after_all next es)
copies_in [] t states next low nodes h = h
copies_in (e ∷ rest) t states next low nodes h =
    elim e.1 as (λ node. IsNodeIn states next node
    → AreIn (with_copied_nodes (with_copied_node t next node) (id_after next node) rest).files (with_copied_files (with_copied_file states next node) (id_after next node) rest) (id_after_all (id_after next node) rest)) [
      | Dir ↦ λ is. copies_in rest t states next low nodes.1 h
      | File id ↦ λ is.
          copies_in rest (with_copied_node t next (File id)) (with_copied_file states next (File id)) (suc next) (omega arith) (nodes_stay states next (states id) rest nodes.1)
          (file_in t.files states next _ (states id) low is.2 h)
    ] nodes.0
