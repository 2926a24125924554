-- What is known of a place whose first node is read.
use Rattle.std.proofs.Common.{◌≡◌, ◌≢◌, ℕ, List, [], ◌∷◌, length, refl, subst, sym, ap, ◌∙◌, arith}
use Rattle.label_tree.specs.Nodes.{entries_of, IsInOrder}
use Rattle.label_tree.specs.declared.tree.Link.{Link}

module _ {X Y : Type 0} where
  pub record AtLink (d : List (List ℕ × X)) (t : Link X Y) : Type 0 where
    pub says : d ≡ entries_of t
    pub in_order : IsInOrder t

  pub at_link : {t u : Link X Y} {d : List (List ℕ × X)} → entries_of t ≡ d → IsInOrder t → t ≡ u → AtLink d u
  at_link {t} {u} {d} view_is in_order is = record { says = sym view_is ∙ ap entries_of is; in_order = subst IsInOrder is in_order }

pub blank : (xs : List ℕ) → length xs ≡ 0 → xs ≡ []
blank [] e = refl
blank (x ∷ xs) e = absurd (omega arith)

pub filled : (xs : List ℕ) → length xs ≢ 0 → xs ≢ []
filled xs e same = e (ap length same)
