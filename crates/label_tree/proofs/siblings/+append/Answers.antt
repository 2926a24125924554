use Rattle.std.proofs.Common.{◌≡◌, ◌++◌, refl, sym, ap, subst, ◌∙◌, arith}
use Rattle.label_tree.specs.Entries.{bytes_in, level, IsNode}
use Rattle.label_tree.specs.Falls.{next_falls}
use Rattle.label_tree.specs.Siblings.{AllBelow}
use Rattle.label_tree.proofs.Changed.{next_new}
use Rattle.label_tree.proofs.Joins.{with_next}
use Rattle.label_tree.proofs.Parted.{level_parts, next_below, rising_both}
use Rattle.label_tree.proofs.siblings.+append.Goals as goal

pub append-requires : goal.append-requires
append-requires g t c κs within =
    let n = c.in-More.node.value in
    let byte = c.args.byte in
    let is = c.in-More.ensures.says ∙ c.replace.ensures.value in
    let below = subst (AllBelow byte) (sym (ap (λ m. m.next) c.deref_mut.ensures.value)) (next_below byte n.label n.value n.below n.next (subst (AllBelow byte) (sym is) c.requires.before)) in
    (omega (arith, c.decreases, next_falls n.label n.value n.below n.next c.in-More.ensures.order, ap bytes_in is, ap (λ m. bytes_in m.next) c.deref_mut.ensures.value), (within.0, (within.1, (below, c.requires.from))))

pub close-requires : goal.close-requires
close-requires g t c =
    let n = c.in-More.node.value in
    let h = c.in-More.ensures.order in
    let byte = c.args.byte in
    let is = c.in-More.ensures.says ∙ c.replace.ensures.value in
    next_new IsNode c.deref_mut.result.now n c.append.new.tree (n.next ++ c.args.after) c.deref_mut.ensures.value (c.append.ensures ∙ ap (λ m. m.next ++ c.args.after) c.deref_mut.ensures.value)
    (with_next n.label n.value n.below n.next (n.next ++ c.args.after) h (rising_both byte n.label n.value n.below n.next c.args.after h (subst (AllBelow byte) (sym is) c.requires.before) c.requires.from))

pub returns : goal.returns
returns g t c =
    let n = c.in-More.node.value in
    let after = c.args.after in
    let is = c.in-More.ensures.says ∙ c.replace.ensures.value in
    c.close.ensures
    ∙ next_new (λ f v b x. level f v b x ≡ level n.label n.value n.below n.next ++ after) c.deref_mut.result.now n c.append.new.tree (n.next ++ after) c.deref_mut.ensures.value (c.append.ensures ∙ ap (λ m. m.next ++ after) c.deref_mut.ensures.value)
    (level_parts n.label n.value n.below (n.next ++ after) n.next after refl)
    ∙ ap (λ xs. xs ++ after) is
