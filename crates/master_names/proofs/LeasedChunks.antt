-- A chunk below a snapshot's source whose lease has not ended.
use native.Mathlib.Omega.{arith}
use Rattle.std.proofs.Common.{◌≡◌, ℕ, zero, suc, ◌+◌, ◌-◌, ◌<◌, ◌≤◌, take, get_or, subst, None, Option, Bool, true, false, cond, leb, ◌&&◌, List, [], ◌∷◌, ◌++◌, refl, sym, ap, ◌∙◌, Some}
use Rattle.std.specs.Prelude.{◌==◌, map, flat_map, length, min, slice_get, IfSome}
use Rattle.std.proofs.lemmas.List.{take_more, take_all}
use Rattle.std.proofs.lemmas.Bool.Decides.{nat_tests}
use Rattle.std.specs.List.{filter, list_all}
use Rattle.std.specs.Ordering.{nat_cmp, is_eq}
use Rattle.std.specs.Cmp.Lexicographic.{slice_cmp}
use Rattle.std.specs.FinMap.{get, entries, get-entries}
use Rattle.std.specs.FinMap.Entries.{find}
use Rattle.std.proofs.lemmas.Map.Text.{is_eq-slice_cmp}
use Rattle.std.proofs.lemmas.Slice.Eq.{bytes_eq-Decides}
use Rattle.gfs_types.specs.Paths.{Path, is_at_or_below}
use Rattle.relaxed_file.specs.Names.{Node, File, copied_entries}
use Rattle.chunk_table.specs.ChunkTable.{ChunkRow, ChunkTable, handles_of, chunk_of}
use Rattle.protocol.specs.Master.{MasterState, PendingSnapshot}
use Rattle.protocol.specs.MasterSnapshots.{node_handles, row_has_ended, is_ready}
use Rattle.master_plan.specs.Plans.{PlanState, known}
use Rattle.protocol.specs.Logged.{Logged}
use Rattle.master_waiting.specs.Due.{WaitAt, is_ready_at}
use Rattle.master_plan.proofs.Waits.{one_more_waits}
use Rattle.master_names.proofs.Sources.{all_rising, handles_of_nodes}

all_of_both : (p : ℕ → Bool) (xs ys : List ℕ) → list_all p (xs ++ ys) ≡ list_all p xs && list_all p ys
all_of_both p [] ys = refl
all_of_both p (x ∷ xs) ys = elim (p x) as (λ b. b && list_all p (xs ++ ys) ≡ (b && list_all p xs) && list_all p ys) [ true ↦ all_of_both p xs ys | false ↦ refl ]

not_first : (a b : Bool) → a ≡ false → a && b ≡ false
not_first true b e = cc
not_first false b e = refl

not_second : (a b : Bool) → b ≡ false → a && b ≡ false
not_second true b e = e
not_second false b e = refl

-- where one entry's list fails a test, those of all that are kept fail it
not_all : {V : Type 0} (p : ℕ → Bool) (list : V → List ℕ) (kept : Path → Bool) (path : Path) (v : V) (es : List (Path × V))
    → find (slice_cmp nat_cmp) path es ≡ Some v → kept path ≡ true → list_all p (list v) ≡ false
    → list_all p (flat_map list (map (λ (e : Path × V). e.1) (filter (λ (e : Path × V). kept e.0) es))) ≡ false
not_all {V} p list kept path v [] found in_ fails = cc
not_all {V} p list kept path v (e ∷ es) found in_ fails =
    let others : List (Path × V) = filter (λ (e : Path × V). kept e.0) es in
    let of : List (Path × V) → List ℕ = λ fs. flat_map list (map (λ (e : Path × V). e.1) fs) in
    elim (is_eq (slice_cmp nat_cmp path e.0)) as (λ b. is_eq (slice_cmp nat_cmp path e.0) ≡ b → cond b (Some e.1) (find (slice_cmp nat_cmp) path es) ≡ Some v
    → list_all p (of (cond (kept e.0) (e ∷ others) others)) ≡ false) [
      | true ↦ λ here is.
          let same : path ≡ e.0 = (bytes_eq-Decides path e.0).0 (sym (is_eq-slice_cmp path e.0) ∙ here) in
          let inside : kept e.0 ≡ true = ap kept (sym same) ∙ in_ in
          let value : e.1 ≡ v = cc in
          ap (λ b. list_all p (of (cond b (e ∷ others) others))) inside
          ∙ all_of_both p (list e.1) (of others)
          ∙ not_first (list_all p (list e.1)) (list_all p (of others)) (ap (λ w. list_all p (list w)) value ∙ fails)
      | false ↦ λ other is. elim (kept e.0) as (λ b. list_all p (of (cond b (e ∷ others) others)) ≡ false) [
        | true ↦ all_of_both p (list e.1) (of others) ∙ not_second (list_all p (list e.1)) (list_all p (of others)) (not_all p list kept path v es is in_ fails)
        | false ↦ not_all p list kept path v es is in_ fails
      ]
    ] refl found

-- while a lease has not ended of a file at the source or below it, a snapshot is not ready
pub must_wait : (m : MasterState) (s : PendingSnapshot) (path : Path) (id : ℕ) → is_at_or_below s.from path ≡ true → get m.logged.names path ≡ Some (File id)
    → list_all (λ handle. row_has_ended m.now (chunk_of m.logged.table handle)) (handles_of m.logged.table id) ≡ false → is_ready m s ≡ false
must_wait m s path id below stands fails =
    let t : ChunkTable = m.logged.table in
    let es : List (Path × Node) = entries m.logged.names in
    let p : ℕ → Bool = λ handle. row_has_ended m.now (chunk_of t handle) in
    all_rising p (flat_map (λ (e : Path × Node). node_handles t e.1) (copied_entries m.logged.names s.from s.to))
    ∙ ap (list_all p) (handles_of_nodes t s.to (length s.from) (filter (λ (e : Path × Node). is_at_or_below s.from e.0) es))
    ∙ not_all p (node_handles t) (is_at_or_below s.from) path (File id) es (sym (get-entries m.logged.names path) ∙ stands) below fails

-- the same at any moment
pub must_wait_at : (p : PlanState) (s : PendingSnapshot) (path : Path) (id moment : ℕ) → is_at_or_below s.from path ≡ true → get p.logged.names path ≡ Some (File id)
    → list_all (λ handle. row_has_ended moment (chunk_of p.logged.table handle)) (handles_of p.logged.table id) ≡ false → is_ready_at p.logged moment s ≡ false
must_wait_at p s path id moment below stands fails = must_wait (known (record p { now = moment })) s path id below stands fails

-- a lease that lasts beyond a moment
pub beyond : (o : Option ChunkRow) (row : ChunkRow) (end moment : ℕ) → o ≡ Some row → end ≡ row.lease_end → (end == 0) ≡ false → moment ≡ end - 1 → row_has_ended moment o ≡ false
beyond o row end moment is own some last = ap (row_has_ended moment) is ∙ less row.lease_end moment (let n : (row.lease_end == 0) ≡ false = ap (λ k. k == 0) (sym own) ∙ some in n) (last ∙ ap (λ k. k - 1) own)
  where
    less : (a m : ℕ) → (a == 0) ≡ false → m ≡ a - 1 → leb a m ≡ false
    less a m e f = grind (arith, nat_tests)

pub lasts : (t : ChunkTable) (handles : List ℕ) (i handle moment : ℕ) → slice_get handles i ≡ Some handle → row_has_ended moment (chunk_of t handle) ≡ false
    → list_all (λ handle. row_has_ended moment (chunk_of t handle)) handles ≡ false
lasts t [] zero handle moment at counts = cc
lasts t [] (suc i) handle moment at counts = cc
lasts t (h ∷ handles) zero handle moment at counts =
    let same : h ≡ handle = cc in
    not_first (row_has_ended moment (chunk_of t h)) (list_all (λ handle. row_has_ended moment (chunk_of t handle)) handles) (ap (λ k. row_has_ended moment (chunk_of t k)) same ∙ counts)
lasts t (h ∷ handles) (suc i) handle moment at counts =
    not_second (row_has_ended moment (chunk_of t h)) (list_all (λ handle. row_has_ended moment (chunk_of t handle)) handles) (lasts t handles i handle moment at counts)

pub some_weaker : {X : Type 0} (o : Option X) (P Q : X → Type 0) → ((x : X) → P x → Q x) → IfSome o P → IfSome o Q
some_weaker None P Q f h = tt
some_weaker (Some x) P Q f h = f x h

pub whole_list : (l : Logged) (ss : List PendingSnapshot) (i until : ℕ) → length ss ≤ i → WaitAt l (take i ss) until → WaitAt l ss until
whole_list l ss i until past h = subst (λ (xs : List PendingSnapshot). WaitAt l xs until) (take_all i ss past) h

pub next_waits : (l : Logged) (ss : List PendingSnapshot) (i : ℕ) (s : PendingSnapshot) (t u : ℕ) → i < length ss → get_or ss i s ≡ s → WaitAt l (take i ss) t → is_ready_at l u s ≡ false
    → WaitAt l (take (i + 1) ss) (min t u)
next_waits l ss i s t u inside is h waits =
    subst (λ (xs : List PendingSnapshot). WaitAt l xs (min t u))
    (ap (λ (x : PendingSnapshot). take i ss ++ x ∷ []) (sym is) ∙ sym (take_more ss i s inside)) (one_more_waits l (take i ss) s t u h waits)
