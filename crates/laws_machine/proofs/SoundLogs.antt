-- What is known of a log that has just one name for each file and counts references: files once, places of handles.
use Rattle.std.proofs.Common.{◌≡◌, ℕ, zero, suc, ◌≤◌, Bool, true, false, cond, List, [], ◌∷◌, ◌++◌, map, Option, Some, None, is_some, refl, sym, ap, ◌∙◌, inl, inr, arith}
use Rattle.std.specs.Prelude.{◌==◌, ◌≢◌, drop, length, filter, unwrap_or}
use Rattle.std.specs.List.{AllByRecursion, sum_by}
use Rattle.std.specs.Ordering.{nat_cmp}
use Rattle.std.specs.FinMap as table
use Rattle.std.specs.FinMap.Entries.{find}
use Rattle.std.proofs.lemmas.List.Sums.{sum_by-cons}
use Rattle.std.proofs.lemmas.Bool.{true≢false, eqb-true}
use Rattle.gfs_types.specs.Paths.{Path, is_at_or_below}
use Rattle.chunk_table.specs.ChunkTable.{ChunkTable, file_of}
use Rattle.relaxed_file.specs.Names.{Node, File, copied_entries}
use Rattle.relaxed_file.proofs.NamesTree.{HasAt, copied_of, entry_is}
use Rattle.protocol.specs.Tables.{element_at}
use Rattle.protocol.specs.Logged.{Logged}
use Rattle.laws_base.specs.Laws.{times_in}
use Rattle.laws_base.proofs.Steps.{count-cons}
use Rattle.laws_base.proofs.Entries.{AllOf, IsFound, all_found}
use Rattle.laws_base.proofs.FilesNamed.{AreDistinct}
use Rattle.laws_base.proofs.OneName.{HasOneName, sorted_distinct}
use Rattle.laws_base.proofs.Owners.{stands}
use Rattle.protocol_invariant.specs.Actions.{Spot}
use Rattle.laws_machine.specs.ChunksAlike.{StandsAt}
use Rattle.laws_machine.specs.ChunkRecords.{AreFilesOnce, AreFilesThere}

on_bool : {A : Type 0} (P : A → Type 0) (b : Bool) (x y : A) → P x → P y → P (cond b x y)
on_bool P true x y f g = f
on_bool P false x y f g = g

-- files below a source are once among those that a snapshot copies

module _ (from to : Path) where
  abbrev copied : Path × Node → Path × Node
  copied e = (to ++ drop (length from) e.0, e.1)

  abbrev copies : List (Path × Node) → List (Path × Node)
  copies es = map copied (filter (λ e. is_at_or_below from e.0) es)

  others_copied : (file : ℕ) (es : List (Path × Node)) → AllOf (λ x. x.1 ≡ File file → ⊥) es → AllByRecursion (λ other. other.1 ≢ File file) (copies es)
  others_copied file [] all = tt
  others_copied file (e ∷ es) all =
      on_bool (λ (xs : List (Path × Node)). AllByRecursion (λ other. other.1 ≢ File file) (map copied xs)) (is_at_or_below from e.0) (e ∷ filter (λ x. is_at_or_below from x.0) es) (filter (λ x. is_at_or_below from x.0) es)
      (all.0, others_copied file es all.1) (others_copied file es all.1)

  others : (file : ℕ) (p : Path) (es : List (Path × Node)) → AllOf (λ x. x.0 ≡ p → ⊥) es → ((q : Path) → HasAt es q (File file) → q ≡ p) → AllOf (λ x. x.1 ≡ File file → ⊥) es
  others file p [] apart same = tt
  others file p (e ∷ es) apart same = (λ is. apart.0 (same e.0 (inl (refl, is))), others file p es apart.1 (λ q has. same q (inr has)))

  once : (es : List (Path × Node)) → AreDistinct es → ((p q : Path) (file : ℕ) → HasAt es p (File file) → HasAt es q (File file) → p ≡ q) → AreFilesOnce (copies es)
  once [] distinct one = tt
  once (e ∷ es) distinct one =
      let rest : AreFilesOnce (copies es) = once es distinct.1 (λ p q file a b. one p q file (inr a) (inr b)) in
      on_bool (λ (xs : List (Path × Node)). AreFilesOnce (map copied xs)) (is_at_or_below from e.0) (e ∷ filter (λ x. is_at_or_below from x.0) es) (filter (λ x. is_at_or_below from x.0) es)
      ((λ file is. others_copied file es (others file e.0 es distinct.0 (λ q has. one q e.0 file (inr has) (inl (refl, is))))), rest) rest

all_by : (P : Path × Node → Type 0) (es : List (Path × Node)) → ((p : Path) (v : Node) → HasAt es p v → P (p, v)) → AllByRecursion P es
all_by P [] f = tt
all_by P (e ∷ es) f = (f e.0 e.1 (inl (refl, refl)), all_by P es (λ p v has. f p v (inr has)))

pub files_once : (l : Logged) (from to : Path) → HasOneName l → AreFilesOnce (copied_entries l.names from to)
files_once l from to h =
    once from to (table.entries l.names) (sorted_distinct (table.entries l.names) (table.entries_sorted l.names))
    (λ p q file a b. h.named.one p q file (entry_is l.names p (File file) a) (entry_is l.names q (File file) b))

pub files_there : (l : Logged) (from to : Path) → HasOneName l → AreFilesThere l (copied_entries l.names from to)
files_there l from to h =
    all_by (λ e. (file : ℕ) → e.1 ≡ File file → (handles : List ℕ) × (file_of l.table file ≡ Some handles)) (copied_entries l.names from to)
    (λ p v has file is.
    let of = copied_of from to (table.entries l.names) p v has in
    by_file file (file_of l.table file) refl (h.named.there of.0 file (entry_is l.names of.0 v of.1 ∙ ap (λ (x : Node). Some x) is)))
  where
    by_file : (file : ℕ) (o : Option (List ℕ)) → file_of l.table file ≡ o → is_some (file_of l.table file) ≡ true → (handles : List ℕ) × (file_of l.table file ≡ Some handles)
    by_file file None is has = absurd (true≢false (sym has ∙ ap is_some is))
    by_file file (Some handles) is has = (handles, is)

-- what stands in files has a place

some_place : (hs : List ℕ) (q : ℕ) → 1 ≤ stands q hs → (i : ℕ) × (element_at hs i ≡ Some q)
some_place [] q some = absurd (omega (arith, some))
some_place (x ∷ hs) q some = by_test (x == q) refl (λ more. some_place hs q more)
  where
    by_test : (b : Bool) → (x == q) ≡ b → (1 ≤ stands q hs → (i : ℕ) × (element_at hs i ≡ Some q)) → (i : ℕ) × (element_at (x ∷ hs) i ≡ Some q)
    by_test true e later = (zero, ap (λ (y : ℕ). Some y) (eqb-true x q e))
    by_test false e later =
        let whole = count-cons (λ h. h == q) x hs in
        let none = ap {B = ℕ} (λ (b : Bool). cond b 1 0) e in
        let rest = later (omega (arith, whole, none, some)) in
        (suc rest.0, rest.1)

some_file : (all es : List (ℕ × List ℕ)) (q : ℕ) → AllOf (IsFound all) es → 1 ≤ sum_by (λ e. stands q e.1) es → (id : ℕ) × (hs : List ℕ) × (find nat_cmp id all ≡ Some hs) × (1 ≤ stands q hs)
some_file all [] q found some = absurd (omega (arith, some))
some_file all (e ∷ es) q found some = by_count (stands q e.1) refl (λ more. some_file all es q found.1 more)
  where
    by_count : (n : ℕ) → stands q e.1 ≡ n → (1 ≤ sum_by (λ x. stands q x.1) es → (id : ℕ) × (hs : List ℕ) × (find nat_cmp id all ≡ Some hs) × (1 ≤ stands q hs)) → (id : ℕ) × (hs : List ℕ) × (find nat_cmp id all ≡ Some hs) × (1 ≤ stands q hs)
    by_count zero none later = later (let whole = sum_by-cons (λ (x : ℕ × List ℕ). stands q x.1) e es in omega (arith, whole, none, some))
    by_count (suc n) more later = (e.0, e.1, found.0, omega (arith, more))

pub stands_somewhere : (t : ChunkTable) (q : ℕ) → 1 ≤ times_in t.files q → (s : Spot) × StandsAt t q s
stands_somewhere t q some =
    let file = some_file (table.entries t.files) (table.entries t.files) q (all_found (table.entries t.files) (table.entries_sorted t.files)) some in
    let place = some_place file.1 q file.3 in
    (record { file = file.0; index = place.0 }, ap (λ (o : Option (List ℕ)). element_at (unwrap_or o []) place.0) (table.get-entries t.files file.0 ∙ file.2) ∙ place.1)
