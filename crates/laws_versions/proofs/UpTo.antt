-- The entries of rounds up to a version: what is seen of later rounds changes none of them.
use Rattle.std.proofs.Common.{◌≡◌, ℕ, zero, suc, ◌<◌, Bool, true, false, List, [], ◌∷◌, ◌++◌, map, Option, Some, refl, sym, ap, ◌∙◌, inl, inr, arith}
use Rattle.std.specs.Prelude.{◌==◌, nat_le, if◌then◌else◌, unwrap_or, filter}
use Rattle.std.specs.FinMap as table
use Rattle.std.proofs.lemmas.Bool.{eqb-true, leb-true, true≢false, and_parts}
use Rattle.relaxed_file.specs.Run.{Visible}
use Rattle.protocol.specs.Tables.{Table, element_at}
use Rattle.protocol.specs.declared.seen.Seen.{Seen}
use Rattle.protocol.specs.declared.seen.Seen.TheVariants.{Numbered, BecameSettled, CopyStarted}
use Rattle.protocol.specs.Observer.{Placed, placed_in, is_placed_as, settled_as, new_entry, orders_after, orders_after_all}
use Rattle.laws_base.proofs.Steps.{on_cond, none_some, same_some, same_or_not, put_there, put_other}
use Rattle.laws_base.proofs.Entries.{AllOf}
use Rattle.laws_versions.specs.SkippedRounds.{up_to}

-- elements of a filtered list

pub kept_element : (test : Placed → Bool) (ps : List Placed) (place : ℕ) (p : Placed) → element_at ps place ≡ Some p → test p ≡ true → (n : ℕ) × (element_at (filter test ps) n ≡ Some p)
kept_element test [] place p at is = none_some p at
kept_element test (q ∷ ps) zero p at is =
    on_cond (λ (xs : List Placed). (n : ℕ) × (element_at xs n ≡ Some p)) (test q) (q ∷ filter test ps) (filter test ps) (λ _. (zero, at)) (λ no. absurd (true≢false (sym is ∙ ap test (sym (same_some q p at)) ∙ no)))
kept_element test (q ∷ ps) (suc place) p at is =
    let rest = kept_element test ps place p at is in
    on_cond (λ (xs : List Placed). (n : ℕ) × (element_at xs n ≡ Some p)) (test q) (q ∷ filter test ps) (filter test ps) (λ _. (suc rest.0, rest.1)) (λ _. rest)

pub element_kept : (test : Placed → Bool) (ps : List Placed) (n : ℕ) (p : Placed) → element_at (filter test ps) n ≡ Some p → (place : ℕ) × (element_at ps place ≡ Some p)
element_kept test [] n p at = none_some p at
element_kept test (q ∷ ps) n p at =
    on_cond (λ (xs : List Placed). (k : ℕ) → element_at xs k ≡ Some p → ((j : ℕ) → element_at (filter test ps) j ≡ Some p → (place : ℕ) × (element_at ps place ≡ Some p)) → (place : ℕ) × (element_at (q ∷ ps) place ≡ Some p))
    (test q) (q ∷ filter test ps) (filter test ps) (λ _. here) (λ _ k is rest. let one = rest k is in (suc one.0, one.1)) n at (λ j is. element_kept test ps j p is)
  where
    here : (k : ℕ) → element_at (q ∷ filter test ps) k ≡ Some p → ((j : ℕ) → element_at (filter test ps) j ≡ Some p → (place : ℕ) × (element_at ps place ≡ Some p)) → (place : ℕ) × (element_at (q ∷ ps) place ≡ Some p)
    here zero is rest = (zero, is)
    here (suc k) is rest = let one = rest k is in (suc one.0, one.1)

-- an entry of an order stands in each other one that is the same up to its round
pub same_element : (version : ℕ) (from to : List Placed) → up_to version from ≡ up_to version to → (place : ℕ) (p : Placed) → element_at from place ≡ Some p → nat_le p.entry.round version ≡ true → (other : ℕ) × (element_at to other ≡ Some p)
same_element version from to same place p at low =
    let listed = kept_element (λ x. nat_le x.entry.round version) from place p at low in
    element_kept (λ x. nat_le x.entry.round version) to listed.0 p (ap (λ (xs : List Placed). element_at xs listed.0) (sym same) ∙ listed.1)

-- one entry more, of a later round
more_same : (version : ℕ) (ps : List Placed) (new : Placed) → version < new.entry.round → up_to version (ps ++ new ∷ []) ≡ up_to version ps
more_same version [] new high =
    on_cond (λ (xs : List Placed). xs ≡ []) (nat_le new.entry.round version) (new ∷ []) [] (λ low. let most = leb-true new.entry.round version low in absurd (omega (arith, most, high))) (λ _. refl)
more_same version (p ∷ ps) new high = ap (λ (xs : List Placed). if nat_le p.entry.round version then p ∷ xs else xs) (more_same version ps new high)

-- entries of a later round that become settled
settled_one : (version v n : ℕ) (p : Placed) (xs : List Placed) → version < v
    → (let q : Placed = settled_as v n p in (if nat_le q.entry.round version then q ∷ xs else xs)) ≡ (if nat_le p.entry.round version then p ∷ xs else xs)
settled_one version v n p xs high =
    on_cond (λ (q : Placed). (if nat_le q.entry.round version then q ∷ xs else xs) ≡ (if nat_le p.entry.round version then p ∷ xs else xs)) (is_placed_as v n p) (record p { entry = record p.entry { settled = true } }) p
    (λ placed. by_round (nat_le p.entry.round version) refl (eqb-true p.entry.round v (and_parts (p.entry.round == v) (p.serial == n) placed).0)) (λ _. refl)
  where
    by_round : (b : Bool) → nat_le p.entry.round version ≡ b → p.entry.round ≡ v → (if b then record p { entry = record p.entry { settled = true } } ∷ xs else xs) ≡ (if b then p ∷ xs else xs)
    by_round true low round = let most = leb-true p.entry.round version low in absurd (omega (arith, most, round, high))
    by_round false other round = refl

settled_same : (version v n : ℕ) (ps : List Placed) → version < v → up_to version (map (settled_as v n) ps) ≡ up_to version ps
settled_same version v n [] high = refl
settled_same version v n (p ∷ ps) high =
    settled_one version v n p (up_to version (map (settled_as v n) ps)) high ∙ ap (λ (xs : List Placed). if nat_le p.entry.round version then p ∷ xs else xs) (settled_same version v n ps high)

module _ (version handle : ℕ) where
  -- what is seen is of later rounds, and no copy begins under this handle
  abbrev pub IsLater : Seen → Type 0
  IsLater (Numbered q v n id m) = q.0 ≡ handle → version < v.0
  IsLater (BecameSettled q v n) = q.0 ≡ handle → version < v.0
  IsLater (CopyStarted q copy) = copy.0 ≡ handle → ⊥

  abbrev pub AreSame : Table (List Placed) → Table (List Placed) → Type 0
  AreSame from to = up_to version (placed_in to handle) ≡ up_to version (placed_in from handle)

  put_same : (orders : Table (List Placed)) (k : ℕ) (ps : List Placed) → (handle ≡ k → up_to version ps ≡ up_to version (placed_in orders handle)) → AreSame orders (table.insert orders k ps)
  put_same orders k ps new =
      elim (same_or_not handle k) [
        | inl same ↦ ap (λ (o : Option (List Placed)). up_to version (unwrap_or o [])) (put_there orders k ps handle same) ∙ new same
        | inr apart ↦ ap (λ (o : Option (List Placed)). up_to version (unwrap_or o [])) (put_other orders k ps handle apart)
      ]

  at_handle : (orders : Table (List Placed)) (k : ℕ) → handle ≡ k → up_to version (placed_in orders k) ≡ up_to version (placed_in orders handle)
  at_handle orders k same = ap (λ (n : ℕ). up_to version (placed_in orders n)) (sym same)

  one_same : (trace : List Visible) (orders : Table (List Placed)) (x : Seen) → IsLater x → AreSame orders (orders_after trace orders x)
  one_same trace orders (Numbered q v n id m) later =
      let new : Placed = new_entry trace v.0 n.0 id m in
      put_same orders q.0 (placed_in orders q.0 ++ new ∷ []) (λ same. more_same version (placed_in orders q.0) new (later (sym same)) ∙ at_handle orders q.0 same)
  one_same trace orders (BecameSettled q v n) later =
      put_same orders q.0 (map (settled_as v.0 n.0) (placed_in orders q.0)) (λ same. settled_same version v.0 n.0 (placed_in orders q.0) (later (sym same)) ∙ at_handle orders q.0 same)
  one_same trace orders (CopyStarted q copy) later = put_same orders copy.0 (placed_in orders q.0) (λ same. absurd (later (sym same)))

  pub all_same : (trace : List Visible) (orders : Table (List Placed)) (xs : List Seen) → AllOf IsLater xs → AreSame orders (orders_after_all trace orders xs)
  all_same trace orders [] later = refl
  all_same trace orders (x ∷ xs) later = all_same trace (orders_after trace orders x) xs later.1 ∙ one_same trace orders x later.0
