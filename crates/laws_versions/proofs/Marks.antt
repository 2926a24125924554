-- Marked entries of an order: what keeps them as the order grows, and how one more is marked behind them.
use Rattle.std.proofs.Common.{◌≡◌, ◌⊎◌, ℕ, zero, suc, ◌≤◌, ◌<◌, Bool, true, false, List, [], ◌∷◌, ◌++◌, Some, refl, sym, ap, subst, ◌∙◌, inl, inr, arith}
use Rattle.std.specs.List.{AllByRecursion}
use Rattle.std.proofs.lemmas.Bool.{cases_lt}
use Rattle.gfs_types.specs.declared.mutation.Mutation.{Mutation}
use Rattle.gfs_types.specs.Mutations.{start_of, end_of}
use Rattle.gfs_types.specs.Image.{image}
use Rattle.protocol.specs.Tables.{element_at}
use Rattle.protocol.specs.Observer.{Placed}
use Rattle.laws_base.proofs.Steps.{none_some, same_some}
use Rattle.protocol_invariant.specs.Versions.{IsBefore, AreRising}
use Rattle.laws_base.specs.ChunkOrders.{unsettled}
use Rattle.laws_versions.specs.CopiedEntries.{Follows}
use Rattle.laws_versions.specs.ReplicaImages.{with_bytes, written_by, marked, mutations_in, IsWithin, HasEntry, IsImageOf}
use Rattle.laws_versions.proofs.Written.{images_are_written_to}

-- lists

pub all_elements : {X : Type 0} (P Q : X → Type 0) → ((x : X) → P x → Q x) → (xs : List X) → AllByRecursion P xs → AllByRecursion Q xs
all_elements P Q f [] all = tt
all_elements P Q f (x ∷ xs) all = (f x all.0, all_elements P Q f xs all.1)

all_more : {X : Type 0} (P : X → Type 0) (xs : List X) (x : X) → AllByRecursion P xs → P x → AllByRecursion P (xs ++ x ∷ [])
all_more P [] x all h = (h, tt)
all_more P (y ∷ xs) x all h = (all.0, all_more P xs x all.1 h)

both_all : {X : Type 0} (P Q : X → Type 0) (xs : List X) → AllByRecursion P xs → AllByRecursion Q xs → AllByRecursion (λ x. P x × Q x) xs
both_all P Q [] a b = tt
both_all P Q (x ∷ xs) a b = ((a.0, b.0), both_all P Q xs a.1 b.1)

pub last_element : {X : Type 0} (xs : List X) (x : X) → (place : ℕ) × (element_at (xs ++ x ∷ []) place ≡ Some x)
last_element [] x = (zero, refl)
last_element (y ∷ xs) x = let rest = last_element xs x in (suc rest.0, rest.1)

mutations_more : (ps : List Placed) (p : Placed) → mutations_in (ps ++ p ∷ []) ≡ mutations_in ps ++ p.entry.mutation ∷ []
mutations_more [] p = refl
mutations_more (q ∷ ps) p = ap (λ (ms : List Mutation). q.entry.mutation ∷ ms) (mutations_more ps p)

-- what is marked stands in the order
pub all_marked : (P : Placed → Type 0) (marks : List Bool) (order : List Placed) → ((place : ℕ) (p : Placed) → element_at order place ≡ Some p → P (unsettled p)) → AllByRecursion P (marked marks order)
all_marked P [] order f = tt
all_marked P (mark ∷ marks) [] f = tt
all_marked P (true ∷ marks) (p ∷ order) f = (f 0 p refl, all_marked P marks order (λ place q at. f (suc place) q at))
all_marked P (false ∷ marks) (p ∷ order) f = all_marked P marks order (λ place q at. f (suc place) q at)

-- the same entries, marked in an order that has them at their places
pub marked_on : (T : Placed → Type 0) (marks : List Bool) (from to : List Placed) → Follows T from to → AllByRecursion T (marked marks from) → (others : List Bool) × (marked others to ≡ marked marks from)
marked_on T [] from to f all = ([], refl)
marked_on T (mark ∷ marks) [] to f all = ([], refl)
marked_on T (true ∷ marks) (p ∷ from) [] f all = none_some (f 0 p refl all.0).0 (f 0 p refl all.0).1
marked_on T (true ∷ marks) (p ∷ from) (q ∷ to) f all =
    let one = f 0 p refl all.0 in
    let rest = marked_on T marks from to (λ place x at t. f (suc place) x at t) all.1 in
    (true ∷ rest.0, ap (λ (x : Placed). x ∷ marked rest.0 to) (ap unsettled (same_some q one.0 one.1) ∙ one.2) ∙ ap (λ (xs : List Placed). unsettled p ∷ xs) rest.1)
marked_on T (false ∷ marks) (p ∷ from) [] f all = marked_on T marks from [] (λ place x at t. f (suc place) x at t) all
marked_on T (false ∷ marks) (p ∷ from) (q ∷ to) f all = let rest = marked_on T marks from to (λ place x at t. f (suc place) x at t) all in (false ∷ rest.0, rest.1)

not_itself : {A : Type 0} (p : Placed) → IsBefore p p → A
not_itself p (inl less) = absurd (omega (arith, less))
not_itself p (inr same) = let less = same.1 in absurd (omega (arith, less))

not_both : {A : Type 0} (p q : Placed) → IsBefore p q → IsBefore q p → A
not_both p q (inl a) (inl b) = absurd (omega (arith, a, b))
not_both p q (inl a) (inr b) = let same = b.0 in absurd (omega (arith, a, same))
not_both p q (inr a) (inl b) = let same = a.0 in absurd (omega (arith, b, same))
not_both p q (inr a) (inr b) = let x = a.1 in let y = b.1 in absurd (omega (arith, x, y))

-- where all that is marked stands before an entry which stands before the rest, none of the rest is marked
none_behind : (q p : Placed) → q ≡ p → (marks : List Bool) (order : List Placed) → AllByRecursion (IsBefore q) order → AllByRecursion (λ x. IsBefore x (unsettled p)) (marked marks order) → marked marks order ≡ []
none_behind q p same [] order before all = refl
none_behind q p same (mark ∷ marks) [] before all = refl
none_behind q p same (true ∷ marks) (x ∷ order) before all = not_both (unsettled p) (unsettled x) (subst (λ (y : Placed). IsBefore (unsettled y) (unsettled x)) same before.0) all.0
none_behind q p same (false ∷ marks) (x ∷ order) before all = none_behind q p same marks order before.1 all

-- one more entry of a rising order is marked, behind all that are
pub marked_more : (marks : List Bool) (order : List Placed) (place : ℕ) (p : Placed) → element_at order place ≡ Some p → AreRising order → AllByRecursion (λ x. IsBefore x (unsettled p)) (marked marks order)
    → (others : List Bool) × (marked others order ≡ marked marks order ++ unsettled p ∷ [])
marked_more marks [] place p at rising all = none_some p at
marked_more [] (q ∷ order) zero p at rising all = (true ∷ [], ap (λ (x : Placed). unsettled x ∷ []) (same_some q p at))
marked_more (true ∷ marks) (q ∷ order) zero p at rising all = not_itself (unsettled p) (subst (λ (x : Placed). IsBefore (unsettled x) (unsettled p)) (same_some q p at) all.0)
marked_more (false ∷ marks) (q ∷ order) zero p at rising all =
    let none = none_behind q p (same_some q p at) marks order rising.0 all in (
      true ∷ marks,
      ap (λ (xs : List Placed). unsettled q ∷ xs) none ∙ ap (λ (x : Placed). unsettled x ∷ []) (same_some q p at) ∙ ap (λ (xs : List Placed). xs ++ unsettled p ∷ []) (sym none),
    )
marked_more [] (q ∷ order) (suc place) p at rising all = let rest = marked_more [] order place p at rising.1 tt in (false ∷ rest.0, rest.1)
marked_more (true ∷ marks) (q ∷ order) (suc place) p at rising all = let rest = marked_more marks order place p at rising.1 all.1 in (true ∷ rest.0, ap (λ (xs : List Placed). unsettled q ∷ xs) rest.1)
marked_more (false ∷ marks) (q ∷ order) (suc place) p at rising all = let rest = marked_more marks order place p at rising.1 all in (false ∷ rest.0, rest.1)

-- images

pub none_applied : (order : List Placed) (version serial : ℕ) (bytes : List ℕ) → serial ≡ 0 → bytes ≡ [] → (g : IsImageOf order version serial bytes) × (marked g.marks order ≡ [])
none_applied order version serial bytes none empty = (record { marks = []; bytes_are = empty; applied = tt; last = inl none }, refl)

-- the same entries make it in another order that has them at their places
pub image_on : (T : Placed → Type 0) (from to : List Placed) (version serial : ℕ) (bytes : List ℕ) → Follows T from to → ((p : Placed) → IsWithin version serial p → T p) → (h : IsImageOf from version serial bytes)
    → (g : IsImageOf to version serial bytes) × (marked g.marks to ≡ marked h.marks from)
image_on T from to version serial bytes f go h =
    let others = marked_on T h.marks from to f (all_elements (IsWithin version serial) T go (marked h.marks from) h.applied) in (
      record {
        marks = others.0;
        bytes_are = h.bytes_are ∙ ap (λ (ps : List Placed). image (mutations_in ps)) (sym others.1);
        applied = subst (λ (ps : List Placed). AllByRecursion (IsWithin version serial) ps) (sym others.1) h.applied;
        last = subst (λ (ps : List Placed). (serial ≡ 0) ⊎ HasEntry ps version serial) (sym others.1) h.last;
      },
      others.1,
    )

-- under a higher version the serials begin anew
pub image_raised : (order : List Placed) (version serial higher : ℕ) (bytes : List ℕ) → version < higher → (h : IsImageOf order version serial bytes) → (g : IsImageOf order higher 0 bytes) × (marked g.marks order ≡ marked h.marks order)
image_raised order version serial higher bytes less h = (
  record {
    marks = h.marks;
    bytes_are = h.bytes_are;
    applied = all_elements (IsWithin version serial) (IsWithin higher 0) (λ p is. let low = is.0 in (omega (arith, low, less), λ same. absurd (omega (arith, low, less, same)))) (marked h.marks order) h.applied;
    last = inl refl;
  },
  refl,
)

-- one more entry is applied, behind all that were
pub image_more : (order : List Placed) (version serial : ℕ) (bytes : List ℕ) (h : IsImageOf order version serial bytes) → AreRising order → (place : ℕ) (p : Placed) → element_at order place ≡ Some p → p.entry.round ≡ version
    → AllByRecursion (λ q. q.entry.round ≡ version → q.serial < p.serial) (marked h.marks order) → start_of p.entry.mutation ≤ end_of p.entry.mutation
    → (g : IsImageOf order version p.serial (with_bytes bytes (start_of p.entry.mutation) (written_by p.entry.mutation))) × (marked g.marks order ≡ marked h.marks order ++ unsettled p ∷ [])
image_more order version serial bytes h rising place p at round later within = (
  record {
    marks = others.0;
    bytes_are =
        ap (λ (bs : List ℕ). with_bytes bs (start_of p.entry.mutation) (written_by p.entry.mutation)) h.bytes_are
        ∙ sym (images_are_written_to (mutations_in (marked h.marks order)) p.entry.mutation within)
        ∙ ap (λ (ms : List Mutation). image ms) (sym (mutations_more (marked h.marks order) (unsettled p)))
        ∙ ap (λ (ps : List Placed). image (mutations_in ps)) (sym others.1);
    applied = subst (λ (ps : List Placed). AllByRecursion (IsWithin version p.serial) ps) (sym others.1) (all_more (IsWithin version p.serial) (marked h.marks order) (unsettled p) low (omega (arith, round), λ same. omega arith));
    last =
        let end = last_element (marked h.marks order) (unsettled p) in
        inr (subst (λ (ps : List Placed). HasEntry ps version p.serial) (sym others.1) (end.0, unsettled p, end.1, round, refl));
  },
  others.1,
)
  where
    both : AllByRecursion (λ q. IsWithin version serial q × (q.entry.round ≡ version → q.serial < p.serial)) (marked h.marks order)
    both = both_all (IsWithin version serial) (λ q. q.entry.round ≡ version → q.serial < p.serial) (marked h.marks order) h.applied later

    low : AllByRecursion (IsWithin version p.serial) (marked h.marks order)
    low =
        all_elements (λ q. IsWithin version serial q × (q.entry.round ≡ version → q.serial < p.serial)) (IsWithin version p.serial) (λ q is. ((is.0).0, λ same. let less = is.1 same in omega (arith, less))) (marked h.marks order) both

    before : AllByRecursion (λ q. IsBefore q (unsettled p)) (marked h.marks order)
    before =
        all_elements (λ q. IsWithin version serial q × (q.entry.round ≡ version → q.serial < p.serial)) (λ q. IsBefore q (unsettled p))
        (λ q is. elim (cases_lt q.entry.round version) [
          | inl less ↦ inl (omega (arith, less, round))
          | inr least ↦ let most = (is.0).0 in let same : q.entry.round ≡ version = omega (arith, least, most) in inr (same ∙ sym round, is.1 same)
        ]) (marked h.marks order) both

    others : (marks : List Bool) × (marked marks order ≡ marked h.marks order ++ unsettled p ∷ [])
    others = marked_more h.marks order place p at rising before
