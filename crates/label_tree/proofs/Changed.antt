-- A fact of a node of which one part was changed.
use Rattle.std.proofs.Common.{◌≡◌, ℕ, List, [], Option, sym, subst}
use Rattle.label_tree.specs.declared.node.TrieNode.{TrieNode}

module _ {X : Type 0} (P : List ℕ → Option X → List (List ℕ × X) → List (List ℕ × X) → Type 0) (new old n : TrieNode X (List (List ℕ × X))) where
  pub below_is : (b d : List (List ℕ × X)) → new ≡ record { label = old.label; value = old.value; below = b; next = old.next } → old ≡ n → b ≡ d → P n.label n.value d n.next → P new.label new.value new.below new.next
  below_is b d e f g h =
      subst (λ (m : TrieNode X (List (List ℕ × X))). P m.label m.value m.below m.next) (sym e)
      (subst (λ (m : TrieNode X (List (List ℕ × X))). P m.label m.value b m.next) (sym f) (subst (λ xs. P n.label n.value xs n.next) (sym g) h))

  pub next_is : (b d : List (List ℕ × X)) → new ≡ record { label = old.label; value = old.value; below = old.below; next = b } → old ≡ n → b ≡ d → P n.label n.value n.below d → P new.label new.value new.below new.next
  next_is b d e f g h =
      subst (λ (m : TrieNode X (List (List ℕ × X))). P m.label m.value m.below m.next) (sym e)
      (subst (λ (m : TrieNode X (List (List ℕ × X))). P m.label m.value m.below b) (sym f) (subst (λ xs. P n.label n.value n.below xs) (sym g) h))

module _ {X : Type 0} (P : List ℕ → Option X → List (List ℕ × X) → List (List ℕ × X) → Type 0) (old n : TrieNode X (List (List ℕ × X))) (b d : List (List ℕ × X)) where
  pub below_new : old ≡ n → b ≡ d → P n.label n.value d n.next → P old.label old.value b old.next
  below_new f g h = subst (λ (m : TrieNode X (List (List ℕ × X))). P m.label m.value b m.next) (sym f) (subst (λ xs. P n.label n.value xs n.next) (sym g) h)

  pub next_new : old ≡ n → b ≡ d → P n.label n.value n.below d → P old.label old.value old.below b
  next_new f g h = subst (λ (m : TrieNode X (List (List ℕ × X))). P m.label m.value m.below b) (sym f) (subst (λ xs. P n.label n.value n.below xs) (sym g) h)

-- the node without what lies below it
abbrev pub emptied : {X : Type 0} → TrieNode X (List (List ℕ × X)) → TrieNode X (List (List ℕ × X))
emptied n = record { label = n.label; value = n.value; below = []; next = n.next }
