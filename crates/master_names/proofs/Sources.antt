-- The chunks of a snapshot of one file, with nothing below its name.
use native.Mathlib.Omega.{arith}
use Rattle.std.proofs.Common.{◌≡◌, ℕ, Bool, true, false, cond, eqb, ltb, not, ◌&&◌, ◌||◌, T, List, [], ◌∷◌, ◌++◌, refl, sym, ap, ◌∙◌, Some, None, append-nil}
use Rattle.std.specs.Prelude.{map, flat_map, drop, length}
use Rattle.std.specs.List.{filter, list_any, list_all}
use Rattle.std.specs.Str.{bytes_eq}
use Rattle.std.specs.Ordering.{nat_cmp, is_eq, is_lt}
use Rattle.std.specs.declared.cmp.Ordering.TheVariants.{Less, Equal, Greater}
use Rattle.std.specs.Cmp.Lexicographic.{slice_cmp}
use Rattle.std.specs.FinMap.{get, entries, entries_sorted, get-entries}
use Rattle.std.specs.FinMap.Entries.{find, is_sorted, where_key, find-where_key, is_sorted-where_key}
use Rattle.std.proofs.lemmas.Map.Text.{is_eq-slice_cmp}
use Rattle.std.proofs.lemmas.Slice.Eq.{bytes_eq-Decides}
use Rattle.std.proofs.lemmas.Bool.Decides.{nat_tests}
use Rattle.gfs_types.specs.Paths.{Path, is_below, is_at_or_below}
use Rattle.relaxed_file.specs.Names.{Node, File, Names, copied_entries}
use Rattle.chunk_table.specs.ChunkTable.{ChunkTable, handles_of}
use Rattle.protocol.specs.Tables.{rising}
use Rattle.protocol.specs.Master.{MasterState, PendingSnapshot}
use Rattle.protocol.specs.MasterSnapshots.{node_handles, snapshot_handles}
use Rattle.master_waiting.proofs.Concerning.{any_rising}

all_none : (p : ℕ → Bool) (xs : List ℕ) → list_all p xs ≡ not (list_any (λ x. not (p x)) xs)
all_none p [] = refl
all_none p (x ∷ xs) = elim (p x) as (λ b. b && list_all p xs ≡ not (not b || list_any (λ x. not (p x)) xs)) [ true ↦ all_none p xs | false ↦ refl ]

pub all_rising : (p : ℕ → Bool) (xs : List ℕ) → list_all p (rising xs) ≡ list_all p xs
all_rising p xs = all_none p (rising xs) ∙ ap not (any_rising (λ x. not (p x)) xs) ∙ sym (all_none p xs)

abbrev Entries : Type 0
Entries = List (Path × Node)

abbrev at : Path → Path → Bool
at from path = bytes_eq path from

-- with nothing below only the name itself is left
only_itself : (from : Path) (es : Entries) → list_any (λ e. is_below from e.0) es ≡ false → filter (λ e. is_at_or_below from e.0) es ≡ filter (λ e. at from e.0) es
only_itself from [] none = refl
only_itself from (e ∷ es) none =
    elim (is_below from e.0) as (λ b. b || list_any (λ e. is_below from e.0) es ≡ false
    → cond (at from e.0 || b) (e ∷ filter (λ e. is_at_or_below from e.0) es) (filter (λ e. is_at_or_below from e.0) es) ≡ cond (at from e.0) (e ∷ filter (λ e. at from e.0) es) (filter (λ e. at from e.0) es)) [
      | true ↦ λ n. cc
      | false ↦ λ n. elim (at from e.0) as (λ a. cond (a || false) (e ∷ filter (λ e. is_at_or_below from e.0) es) (filter (λ e. is_at_or_below from e.0) es) ≡ cond a (e ∷ filter (λ e. at from e.0) es) (filter (λ e. at from e.0) es)) [
        | true ↦ ap (λ (xs : Entries). e ∷ xs) (only_itself from es n)
        | false ↦ only_itself from es n
      ]
    ] none

all_at : (from : Path) (es : Entries) → list_all (λ e. at from e.0) (filter (λ e. at from e.0) es) ≡ true
all_at from [] = refl
all_at from (e ∷ es) = elim (at from e.0) as (λ b. at from e.0 ≡ b → list_all (λ e. at from e.0) (cond b (e ∷ filter (λ e. at from e.0) es) (filter (λ e. at from e.0) es)) ≡ true) [
  | true ↦ λ h. ap (λ b. b && list_all (λ e. at from e.0) (filter (λ e. at from e.0) es)) h ∙ all_at from es
  | false ↦ λ h. all_at from es
] refl

first_of : (a b : Bool) → a && b ≡ true → a ≡ true
first_of true b e = cc
first_of false b e = cc

second_of : (a b : Bool) → a && b ≡ true → b ≡ true
second_of true b e = e
second_of false b e = cc

first : (a b : Bool) → T (a && b) → T a
first true b p = tt
first false b p = p

not_less : (a b : Path) → bytes_eq a b ≡ true → T (is_lt (slice_cmp nat_cmp a b)) → ⊥
not_less a b e h =
    let tied : is_eq (slice_cmp nat_cmp a b) ≡ true = is_eq-slice_cmp a b ∙ e in
    elim (slice_cmp nat_cmp a b) as (λ r. is_eq r ≡ true → T (is_lt r) → ⊥) [
      | Less ↦ λ t l. cc
      | Equal ↦ λ t l. l
      | Greater ↦ λ t l. l
    ] tied h

same_names : (from a b : Path) → at from a ≡ true → at from b ≡ true → bytes_eq a b ≡ true
same_names from a b x y = (bytes_eq-Decides a b).1 ((bytes_eq-Decides a from).0 x ∙ sym ((bytes_eq-Decides b from).0 y))

-- entries of one name in their order are one entry
one_alone : (from : Path) (es : Entries) (v : Node) → T (is_sorted (slice_cmp nat_cmp) es) → list_all (λ e. at from e.0) es ≡ true → find (slice_cmp nat_cmp) from es ≡ Some v
    → map (λ e. e.1) es ≡ v ∷ []
one_alone from [] v sorted all found = cc
one_alone from (e ∷ []) v sorted all found =
    let here : is_eq (slice_cmp nat_cmp from e.0) ≡ true = is_eq-slice_cmp from e.0 ∙ (bytes_eq-Decides from e.0).1 (sym ((bytes_eq-Decides e.0 from).0 (first_of _ _ all))) in
    let stands : Some e.1 ≡ Some v = ap (λ b. cond b (Some e.1) None) (sym here) ∙ found in
    let same : e.1 ≡ v = cc in
    ap (λ x. x ∷ []) same
one_alone from (e ∷ f ∷ es) v sorted all found =
    absurd (not_less e.0 f.0 (same_names from e.0 f.0 (first_of _ _ all) (first_of _ _ (second_of (at from e.0) _ all))) (first _ _ (first _ _ sorted)))

pub handles_of_nodes : (t : ChunkTable) (to : Path) (n : ℕ) (es : Entries)
    → flat_map (λ (e : Path × Node). node_handles t e.1) (map (λ (e : Path × Node). (to ++ drop n e.0, e.1)) es) ≡ flat_map (node_handles t) (map (λ (e : Path × Node). e.1) es)
handles_of_nodes t to n [] = refl
handles_of_nodes t to n (e ∷ es) = ap (λ xs. node_handles t e.1 ++ xs) (handles_of_nodes t to n es)

ties_at : (from x : Path) → slice_cmp nat_cmp from x ≡ Equal → at from x ≡ at from from
ties_at from x e = ap (λ y. bytes_eq y from) (sym ((bytes_eq-Decides from x).0 (sym (is_eq-slice_cmp from x) ∙ ap is_eq e)))

pub alone : (t : ChunkTable) (names : Names) (from to : Path) (v : Node) → list_any (λ e. is_below from e.0) (entries names) ≡ false → get names from ≡ Some v
    → flat_map (λ (e : Path × Node). node_handles t e.1) (copied_entries names from to) ≡ node_handles t v
alone t names from to v none stands =
    let es : Entries = entries names in
    let kept : Entries = where_key (slice_cmp nat_cmp) (at from) es in
    let itself : at from from ≡ true = (bytes_eq-Decides from from).1 refl in
    let found : find (slice_cmp nat_cmp) from kept ≡ Some v =
    find-where_key (slice_cmp nat_cmp) (at from) from (ties_at from) es
    ∙ ap (λ b. cond b (find (slice_cmp nat_cmp) from es) None) itself
    ∙ sym (get-entries names from) ∙ stands in
    ap (λ (xs : Entries). flat_map (λ (e : Path × Node). node_handles t e.1) (map (λ (e : Path × Node). (to ++ drop (length from) e.0, e.1)) xs)) (only_itself from es none)
    ∙ handles_of_nodes t to (length from) kept
    ∙ ap (flat_map (node_handles t)) (one_alone from kept v (is_sorted-where_key (slice_cmp nat_cmp) (at from) es (entries_sorted names)) (all_at from es) found)
    ∙ append-nil (node_handles t v)

-- what a snapshot of one file concerns
pub concerned_alone : (m : MasterState) (s : PendingSnapshot) (id : ℕ) → list_any (λ e. is_below s.from e.0) (entries m.logged.names) ≡ false → get m.logged.names s.from ≡ Some (File id)
    → snapshot_handles m s ≡ rising (handles_of m.logged.table id)
concerned_alone m s id none stands = ap rising (alone m.logged.table m.logged.names s.from s.to (File id) none stands)
