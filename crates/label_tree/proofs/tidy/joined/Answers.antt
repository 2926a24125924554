use Rattle.std.proofs.Common.{◌≡◌, ◌+◌, ◌++◌, ◌&&◌, nat_le, true, false, length, sym, ap, ◌∙◌}
use Rattle.label_tree.specs.Entries.{level, is_nothing, IsNode}
use Rattle.label_tree.specs.Nodes.{says}
use Rattle.label_tree.proofs.Changed.{below_is}
use Rattle.label_tree.proofs.Joins.{join_says, room_alone, kept_apart}
use Rattle.label_tree.proofs.tidy.joined.Goals as goal

pub returns-then-has_room : goal.returns-then-has_room
returns-then-has_room g c =
    let n = c.args.node.value in
    let k = c.args.child.value in
    let room : (is_nothing k.next && nat_le (length n.label + length k.label) 24) ≡ true = sym (c.if-has_room.ensures ∙ ap (λ m. is_nothing m.next && nat_le (length c.deref.result.now.label + length m.label) 24) c.deref-2.ensures ∙ ap (λ m. is_nothing k.next && nat_le (length m.label + length k.label) 24) c.deref.ensures) in
    c.close.ensures ∙ ap says c.absorb.ensures
    ∙ ap (λ m. level (m.label ++ c.into_inner.result.label) c.into_inner.result.value c.into_inner.result.below m.next) c.deref_mut.ensures.value
    ∙ ap (λ m. level (n.label ++ m.label) m.value m.below n.next) c.into_inner.ensures
    ∙ join_says n.label k.label k.value k.below k.next n.next (room_alone k.next (length n.label + length k.label) room)

pub close-requires-3 : goal.close-requires-3
close-requires-3 g c =
    let n = c.args.node.value in
    let k = c.args.child.value in
    let apart : (is_nothing k.next && nat_le (length n.label + length k.label) 24) ≡ false = sym (c.if-has_room.ensures ∙ ap (λ m. is_nothing m.next && nat_le (length c.deref.result.now.label + length m.label) 24) c.deref-2.ensures ∙ ap (λ m. is_nothing k.next && nat_le (length m.label + length k.label) 24) c.deref.ensures) in
    below_is IsNode c.set_below.new.self c.deref_mut-2.result.now n c.close-2.result (says k) c.set_below.ensures c.deref_mut-2.ensures.value c.close-2.ensures
    (kept_apart n.label k.label k.value n.value k.below n.below k.next n.next c.requires.node c.requires.child c.requires.nothing apart)
