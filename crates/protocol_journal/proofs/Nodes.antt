-- Names of nodes, and nodes in a world.
use Rattle.std.proofs.Common.{◌≡◌, ℕ, zero, suc, ◌+◌, ◌-◌, Bool, true, false, cond, List, [], ◌∷◌, Option, Some, None, refl, sym, ap, subst, ◌∙◌, arith}
use Rattle.std.specs.Prelude.{◌==◌}
use Rattle.std.proofs.lemmas.Bool.{eqb-true, eqb-false, eq-eqb}
use Rattle.gfs_types.specs.declared.ids.Node.{Node}
use Rattle.gfs_types.specs.declared.ids.Node.TheVariants as node
use Rattle.gfs_types.specs.declared.ids.ServerId.{ServerId}
use Rattle.gfs_types.specs.declared.ids.ClientId.{ClientId}
use Rattle.protocol.specs.Tables.{element_at, with_at}
use Rattle.protocol.specs.World.{numbered_from_1}
use Rattle.protocol_journal.specs.Journal.{is_node}

pub none_some : {X : Type 0} {A : Type 0} (x : X) → None ≡ Some x → A
none_some x h = absurd (cc)

pub true_false : {A : Type 0} → true ≡ false → A
true_false h = absurd (let both : true ≡ false = h in cc)

pub false_true : {A : Type 0} → false ≡ true → A
false_true h = absurd (let both : false ≡ true = h in cc)

pub node_is : (a b : Node) → is_node a b ≡ true → a ≡ b
node_is node.Master node.Master h = refl
node_is node.Master (node.Server b) h = false_true h
node_is node.Master (node.Client b) h = false_true h
node_is (node.Server a) node.Master h = false_true h
node_is (node.Server a) (node.Server b) h = ap (λ (k : ℕ). node.Server (record { 0 = k })) (eqb-true a.0 b.0 h)
node_is (node.Server a) (node.Client b) h = false_true h
node_is (node.Client a) node.Master h = false_true h
node_is (node.Client a) (node.Server b) h = false_true h
node_is (node.Client a) (node.Client b) h = ap (λ (k : ℕ). node.Client (record { 0 = k })) (eqb-true a.0 b.0 h)

pub node_itself : (a : Node) → is_node a a ≡ true
node_itself node.Master = refl
node_itself (node.Server a) = eq-eqb a.0 a.0 refl
node_itself (node.Client a) = eq-eqb a.0 a.0 refl

set_here : {X : Type 0} (xs : List X) (at : ℕ) (x y : X) → element_at xs at ≡ Some x → element_at (with_at xs at y) at ≡ Some y
set_here [] at x y h = none_some x h
set_here (z ∷ zs) zero x y h = refl
set_here (z ∷ zs) (suc at) x y h = set_here zs at x y h

set_else : {X : Type 0} (xs : List X) (at n : ℕ) (y : X) → (n ≡ at → ⊥) → element_at (with_at xs at y) n ≡ element_at xs n
set_else [] at n y h = refl
set_else (z ∷ zs) zero zero y h = absurd (h refl)
set_else (z ∷ zs) zero (suc n) y h = refl
set_else (z ∷ zs) (suc at) zero y h = refl
set_else (z ∷ zs) (suc at) (suc n) y h = set_else zs at n y (λ same. h (ap (λ (k : ℕ). suc k) same))

before_suc : (n : ℕ) → n ≡ suc n - 1
before_suc n = omega arith

pub number_is : {X : Type 0} (xs : List X) (n : ℕ) (x : X) → numbered_from_1 xs n ≡ Some x → suc (n - 1) ≡ n
number_is xs zero x h = none_some x h
number_is xs (suc n) x h = ap (λ (k : ℕ). suc k) (sym (before_suc n))

pub numbered_here : {X : Type 0} (xs : List X) (n : ℕ) (x y : X) → numbered_from_1 xs n ≡ Some x → numbered_from_1 (with_at xs (n - 1) y) n ≡ Some y
numbered_here xs zero x y h = none_some x h
numbered_here xs (suc n) x y h = subst (λ (k : ℕ). element_at (with_at xs k y) n ≡ Some y) (before_suc n) (set_here xs n x y h)

pub numbered_else : {X : Type 0} (xs : List X) (n m : ℕ) (x y : X) → numbered_from_1 xs n ≡ Some x → (n == m) ≡ false → numbered_from_1 (with_at xs (n - 1) y) m ≡ numbered_from_1 xs m
numbered_else xs zero m x y h other = none_some x h
numbered_else xs (suc n) zero x y h other = refl
numbered_else xs (suc n) (suc m) x y h other =
    subst (λ (k : ℕ). element_at (with_at xs k y) m ≡ element_at xs m) (before_suc n)
    (set_else xs n m y (λ same. eqb-false (suc n) (suc m) other (ap (λ (k : ℕ). suc k) (sym same))))
