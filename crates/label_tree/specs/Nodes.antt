-- What a place in a tree stands for.
use Rattle.std.specs.Prelude.{◌≡◌, ℕ, List, [], ◌∷◌}
use Rattle.label_tree.specs.Fronts.{first_byte}
use Rattle.label_tree.specs.Entries.{BeginsFrom, level, IsPlaced, IsNode}
use Rattle.label_tree.specs.declared.node.TrieNode.{TrieNode}
use Rattle.label_tree.specs.declared.tree.Link.{Link}
use Rattle.label_tree.specs.declared.tree.Link.TheVariants.{End, More}

module _ {X : Type 0} where
  -- what a node and its later siblings stand for
  abbrev pub says : TrieNode X (List (List ℕ × X)) → List (List ℕ × X)
  says n = level n.label n.value n.below n.next

  -- it is a node of a tree in order
  abbrev pub IsWhole : TrieNode X (List (List ℕ × X)) → Type 0
  IsWhole n = IsNode n.label n.value n.below n.next

  -- its parts are in their places
  abbrev pub IsLoose : TrieNode X (List (List ℕ × X)) → Type 0
  IsLoose n = IsPlaced n.label n.below n.next

  -- it says one path alone
  pub record IsBranch (n : TrieNode X (List (List ℕ × X))) (path : List ℕ) (value : X) : Type 0 where
    pub whole : IsWhole n
    pub only : says n ≡ (path, value) ∷ []
    pub alone : n.next ≡ []
    pub begins : first_byte n.label ≡ first_byte path
    pub filled : BeginsFrom 0 path

module _ {X Y : Type 0} where
  abbrev pub entries_of : Link X Y → List (List ℕ × X)
  entries_of End = []
  entries_of (More n) = says n.value

  abbrev pub IsInOrder : Link X Y → Type 0
  IsInOrder End = Unit {0}
  IsInOrder (More n) = IsWhole n.value
