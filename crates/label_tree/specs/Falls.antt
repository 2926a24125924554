-- Each place below a node has fewer bytes than the node.
use Rattle.std.specs.Prelude.{◌≡◌, ℕ, ◌+◌, ◌≤◌, ◌<◌, max, List, [], ◌∷◌, ◌++◌, length, Option, Some, None}
use Rattle.std.proofs.Common.{arith, length-append}
use Rattle.std.specs.declared.alloc.Allocator.{Ghosts}
use Rattle.label_tree.specs.Entries.{BeginsFrom, level, under, own, bytes_in, IsNode}
use Rattle.label_tree.specs.Nodes.{entries_of, IsInOrder}
use Rattle.label_tree.specs.declared.tree.Link.{Link}
use Rattle.label_tree.specs.declared.tree.Link.TheVariants.{End, More}
use Rattle.label_tree.specs.declared.tree.Tree.TheDeep.{deep-Link}

label_filled : (label : List ℕ) → BeginsFrom 0 label → 1 ≤ length label
label_filled [] h = absurd h
label_filled (c ∷ rest) h = omega arith

module _ {X : Type 0} where
  bytes_append : (es fs : List (List ℕ × X)) → bytes_in (es ++ fs) ≡ bytes_in es + bytes_in fs
  bytes_append [] fs = omega arith
  bytes_append (e ∷ es) fs = omega (arith, bytes_append es fs)

  bytes_under : (label : List ℕ) (es : List (List ℕ × X)) → 1 ≤ length label → bytes_in es + length es ≤ bytes_in (under label es)
  bytes_under label [] h = omega arith
  bytes_under label (e ∷ es) h = omega (arith, bytes_under label es h, length-append label e.0)

  own_shorter : (value : Option X) (below : List (List ℕ × X)) → bytes_in below ≤ bytes_in (own value ++ below)
  own_shorter None below = omega arith
  own_shorter (Some v) below = omega arith

  pub below_falls : (label : List ℕ) (value : Option X) (below next : List (List ℕ × X)) → IsNode label value below next → bytes_in below < bytes_in (level label value below next)
  below_falls label value below next h =
      omega (arith, bytes_append (under label (own value ++ below)) next, bytes_under label (own value ++ below) (label_filled label h.placed.labelled), own_shorter value below, h.alive)

  pub next_falls : (label : List ℕ) (value : Option X) (below next : List (List ℕ × X)) → IsNode label value below next → bytes_in next < bytes_in (level label value below next)
  next_falls label value below next h =
      omega (arith, bytes_append (under label (own value ++ below)) next, bytes_under label (own value ++ below) (label_filled label h.placed.labelled), h.alive)

module _ {X Y : Type 0} where
  pub deep_le_bytes : (alloc : Ghosts Y) (l : Link X Y) → IsInOrder l → max (deep-Link X Y alloc l) 0 ≤ bytes_in (entries_of l)
  deep_le_bytes alloc End h = omega arith
  deep_le_bytes alloc (More n) h = omega (arith, below_falls n.value.label n.value.value n.value.below n.value.next h, next_falls n.value.label n.value.value n.value.below n.value.next h)
