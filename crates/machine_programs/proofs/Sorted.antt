-- Lists of names as the finite maps of their entries: look-ups, and where a name goes.
use Rattle.std.proofs.Common.{◌≡◌, ℕ, suc, ◌+◌, ◌<◌, ◌≤◌, Bool, true, false, cond, not, T, List, [], ◌∷◌, drop, length, get_or, Some, None, Result, Ok, Err, OnOk, OnErr, refl, sym, ap, subst, ◌∙◌, arith, add-one, drop-cons}
use Rattle.std.specs.Prelude.{filter}
use Rattle.std.specs.List.{insert as insert_at}
use Rattle.std.specs.Str.{bytes_eq}
use Rattle.std.specs.declared.cmp.Ordering.{Ordering}
use Rattle.std.specs.declared.cmp.Ordering.TheVariants.{Less, Equal, Greater}
use Rattle.std.specs.Ordering.{nat_cmp, eq_by_cmp, is_eq}
use Rattle.std.specs.Cmp.{eq_by_cmp_equiv}
use Rattle.std.specs.Cmp.Lexicographic.{slice_cmp, nat_list_cmp_total}
use Rattle.std.specs.FinMap as map
use Rattle.std.specs.FinMap.{slice_cmp-IsAntisymmetric, nat_cmp-IsAntisymmetric, IsAntisymmetric}
use Rattle.std.specs.FinMap.Entries.{by_order, find, put, where_key, is_sorted, is_sorted-put, is_sorted-where_key, find-put, find-where_key}
use Rattle.std.proofs.lemmas.Map.Text.{is_eq-slice_cmp}
use Rattle.std.proofs.lemmas.Option.{none-some}
use Rattle.std.proofs.lemmas.Slice.Eq.{bytes_eq-Decides}
use Rattle.gfs_types.specs.Paths.{Path}
use Rattle.relaxed_file.specs.Names.{Node, Names}
use Rattle.machine_programs.specs.NameKinds.{place_of}

from_T : (b : Bool) → T b → b ≡ true
from_T true h = refl
from_T false h = absurd h

abbrev Entry : Type 0
Entry = Path × Node

abbrev pub R : Path → Path → Ordering
R = slice_cmp nat_cmp

-- equal paths have equal bytes
pub bytes_exact : IsAntisymmetric (slice_cmp nat_cmp)
bytes_exact = slice_cmp-IsAntisymmetric nat_cmp-IsAntisymmetric

front : (es : List Entry) (place : ℕ) (x : Entry) → place < length es → x ≡ get_or es place x → drop place es ≡ x ∷ drop (place + 1) es
front es place x there is = rw (add-one, drop-cons es place x) (ap (λ (e : Entry). e ∷ drop (suc place) es) (sym is))

-- the scan at one name
pub found_here : (q : Path) (es : List Entry) (place : ℕ) (x : Entry) → place < length es → x ≡ get_or es place x → bytes_eq q x.0 ≡ true → find R q (drop place es) ≡ Some x.1
found_here q es place x there is same =
    ap (find R q) (front es place x there is) ∙ ap (λ b. cond b (Some x.1) (find R q (drop (place + 1) es))) (is_eq-slice_cmp q x.0 ∙ same)

pub found_later : (q : Path) (es : List Entry) (place : ℕ) (x : Entry) → place < length es → x ≡ get_or es place x → bytes_eq q x.0 ≡ false → find R q (drop (place + 1) es) ≡ find R q (drop place es)
found_later q es place x there is other =
    sym (ap (find R q) (front es place x there is) ∙ ap (λ b. cond b (Some x.1) (find R q (drop (place + 1) es))) (is_eq-slice_cmp q x.0 ∙ other))

pub place_within : (k : Path) (es : List Entry) → place_of k es ≤ length es
place_within k [] = omega arith
place_within k (e ∷ es) = elim (R k e.0) as (λ o. by_order o 0 0 (suc (place_of k es)) ≤ suc (length es)) [
  | Less ↦ omega arith
  | Equal ↦ omega arith
  | Greater ↦ let l : place_of k es ≤ length es = place_within k es in omega arith
]

-- a name of a new path goes to its place
put_by : (k : Path) (v : Node) (e : Entry) (es : List Entry) (o : Ordering) → cond (is_eq o) (Some e.1) (find R k es) ≡ None
    → (find R k es ≡ None → insert_at es (place_of k es) (k, v) ≡ put R k v es)
    → insert_at (e ∷ es) (by_order o 0 0 (suc (place_of k es))) (k, v) ≡ by_order o ((k, v) ∷ e ∷ es) ((e.0, v) ∷ es) (e ∷ put R k v es)
put_by k v e es Less none more = refl
put_by k v e es Equal none more = absurd (none-some e.1 (sym none))
put_by k v e es Greater none more = ap (λ xs. e ∷ xs) (more none)

pub put_free : (k : Path) (v : Node) (es : List Entry) → find R k es ≡ None → insert_at es (place_of k es) (k, v) ≡ put R k v es
put_free k v [] none = refl
put_free k v (e ∷ es) none = put_by k v e es (R k e.0) none (put_free k v es)

-- the names of all other paths
abbrev pub others : Path → Path → Bool
others k p = not (eq_by_cmp R k p)

tied_itself : (k : Path) → eq_by_cmp R k k ≡ true
tied_itself k = is_eq-slice_cmp k k ∙ (bytes_eq-Decides k k).1 refl

alike : (k q x : Path) → R q x ≡ Equal → others k x ≡ others k q
alike k q x e = ap (others k) (sym (bytes_exact q x e))

pub others_kept : (k : Path) (es : List Entry) → filter (λ e. not (bytes_eq k e.0)) es ≡ where_key R (others k) es
others_kept k [] = refl
others_kept k (e ∷ es) =
    ap (λ b. cond (not b) (e ∷ filter (λ x. not (bytes_eq k x.0)) es) (filter (λ x. not (bytes_eq k x.0)) es)) (sym (is_eq-slice_cmp k e.0))
    ∙ ap (λ xs. cond (others k e.0) (e ∷ xs) xs) (others_kept k es)

pub free_then : (k : Path) (es : List Entry) → find R k (where_key R (others k) es) ≡ None
free_then k es = find-where_key R (others k) k (alike k k) es ∙ ap (λ b. cond (not b) (find R k es) None) (tied_itself k)

turned : {A : Type 0} (b : Bool) (x y : A) → cond (not b) x y ≡ cond b y x
turned true x y = refl
turned false x y = refl

twice : {A : Type 0} (b : Bool) (x y z : A) → cond b x (cond b y z) ≡ cond b x z
twice true x y z = refl
twice false x y z = refl

found_other : (k q : Path) (es : List Entry) → find R q (where_key R (others k) es) ≡ cond (eq_by_cmp R q k) None (find R q es)
found_other k q es =
    find-where_key R (others k) q (alike k q) es ∙ turned (eq_by_cmp R k q) (find R q es) None
    ∙ ap (λ b. cond b None (find R q es)) ((eq_by_cmp_equiv nat_list_cmp_total).symm k q)

-- the map of a list, and of the list after a change
abbrev pub names_of : List Entry → Names
names_of es = map.from_entries es

pub look_up : (es : List Entry) (q : Path) → map.get (names_of es) q ≡ find R q es
look_up es q = map.get-from_entries nat_list_cmp_total es q

pub removed_names : (k : Path) (es : List Entry) → names_of (where_key R (others k) es) ≡ map.remove (names_of es) k
removed_names k es = map.same_map nat_list_cmp_total bytes_exact _ _ (λ q.
    look_up (where_key R (others k) es) q ∙ found_other k q es
    ∙ sym (map.get-remove nat_list_cmp_total (names_of es) k q ∙ ap (cond (eq_by_cmp R q k) None) (look_up es q)))

pub put_names : (k : Path) (v : Node) (es : List Entry) → names_of (put R k v (where_key R (others k) es)) ≡ map.insert (names_of es) k v
put_names k v es = map.same_map nat_list_cmp_total bytes_exact _ _ (λ q.
    look_up (put R k v (where_key R (others k) es)) q ∙ find-put R nat_list_cmp_total q k v (where_key R (others k) es)
    ∙ ap (cond (eq_by_cmp R q k) (Some v)) (found_other k q es) ∙ twice (eq_by_cmp R q k) (Some v) None (find R q es)
    ∙ sym (map.get-insert nat_list_cmp_total (names_of es) k v q ∙ ap (cond (eq_by_cmp R q k) (Some v)) (look_up es q)))

abbrev pub IsSorted : List Entry → Type 0
IsSorted es = is_sorted R es ≡ true

pub removed_sorted : (k : Path) (es : List Entry) → IsSorted es → IsSorted (where_key R (others k) es)
removed_sorted k es h = from_T _ (is_sorted-where_key R (others k) es (subst T (sym h) tt))

pub put_sorted : (k : Path) (v : Node) (es : List Entry) → IsSorted es → IsSorted (put R k v es)
put_sorted k v es h = from_T _ (is_sorted-put R nat_list_cmp_total k v es (subst T (sym h) tt))

-- a sorted list has the very entries of its map
pub entries_of : (es : List Entry) → IsSorted es → map.entries (names_of es) ≡ es
entries_of es h =
    let sorted : T (is_sorted R es) = subst T (sym h) tt in
    let same : names_of es ≡ map.from_sorted es = map.same_map nat_list_cmp_total bytes_exact _ _ (λ q. look_up es q ∙ sym (map.get-from_sorted R es q sorted)) in
    ap map.entries same ∙ map.entries-from_sorted R es sorted

-- after a name was put, or its path was only taken away
pub sorted_after : {A E : Type 0} (r : Result A E) (k : Path) (v : Node) (old new : List Entry) → IsSorted old
    → OnOk r (new ≡ put R k v (filter (λ e. not (bytes_eq k e.0)) old)) → OnErr r (new ≡ filter (λ e. not (bytes_eq k e.0)) old) → IsSorted new
sorted_after (Ok x) k v old new h ok err = ap (λ es. is_sorted R es) (ok ∙ ap (λ es. put R k v es) (others_kept k old)) ∙ put_sorted k v _ (removed_sorted k old h)
sorted_after (Err e) k v old new h ok err = ap (λ es. is_sorted R es) (err ∙ others_kept k old) ∙ removed_sorted k old h

pub names_after : {A E : Type 0} (r : Result A E) (k : Path) (v : Node) (old new : List Entry) (names : Names) → names_of old ≡ names
    → OnOk r (new ≡ put R k v (filter (λ e. not (bytes_eq k e.0)) old)) → OnOk r (names_of new ≡ map.insert names k v)
names_after (Ok x) k v old new names is ok = ap names_of (ok ∙ ap (λ es. put R k v es) (others_kept k old)) ∙ put_names k v old ∙ ap (λ m. map.insert m k v) is
names_after (Err e) k v old new names is ok = ok
