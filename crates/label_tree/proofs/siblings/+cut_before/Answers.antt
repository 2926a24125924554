use Rattle.std.proofs.Common.{◌≡◌, ◌≤◌, ◌<◌, ◌++◌, suc, length, sym, ap, subst, refl, ◌∙◌, arith}
use Rattle.label_tree.specs.Fronts.{first_byte}
use Rattle.label_tree.specs.Entries.{bytes_in, level, AllFrom, IsNode}
use Rattle.label_tree.specs.Falls.{next_falls}
use Rattle.label_tree.proofs.Levels.{all_level}
use Rattle.label_tree.specs.Siblings.{AllBelow}
use Rattle.label_tree.proofs.Changed.{next_new}
use Rattle.label_tree.proofs.Joins.{with_next}
use Rattle.label_tree.proofs.Parted.{some_begins, from_left, level_parts, level_below}
use Rattle.label_tree.proofs.siblings.+cut_before.Goals as goal

pub first_byte-requires : goal.first_byte-requires
first_byte-requires g t c = subst (λ l. 1 ≤ length l) (sym (c.as_slice.ensures.value ∙ ap (λ m. m.label) c.deref.ensures)) (some_begins c.in-More.node.value.label c.in-More.ensures.order.placed.labelled)

pub returns-then-first_byte-byte-clause-both : goal.returns-then-first_byte-byte-clause-both
returns-then-first_byte-byte-clause-both g t c = sym (c.close.ensures ∙ c.in-More.ensures.says ∙ c.replace.ensures.value) ∙ ap (λ xs. xs ++ c.close.result) (sym (c.replace.ensures.after ∙ c.new.ensures))

pub returns-then-first_byte-byte-clause-from : goal.returns-then-first_byte-byte-clause-from
returns-then-first_byte-byte-clause-from g t c =
    let n = c.in-More.node.value in
    let byte = c.args.byte in
    let first : byte ≤ first_byte n.label = subst (λ l. byte ≤ first_byte l) (c.as_slice.ensures.value ∙ ap (λ m. m.label) c.deref.ensures) (omega (arith, c.first_byte.ensures, c.if-first_byte-byte.true)) in
    subst (AllFrom byte) (sym c.close.ensures) (all_level byte n.label n.value n.below n.next c.in-More.ensures.order.placed first)

pub cut_before-rest-requires : goal.cut_before-rest-requires
cut_before-rest-requires g t c κs within =
    let n = c.in-More.node.value in
    (omega (arith, c.decreases, next_falls n.label n.value n.below n.next c.in-More.ensures.order, ap bytes_in (c.in-More.ensures.says ∙ c.replace.ensures.value), ap (λ m. bytes_in m.next) c.deref_mut.ensures.value), within)

pub close-requires-2 : goal.close-requires-2
close-requires-2 g t c =
    let n = c.in-More.node.value in
    let h = c.in-More.ensures.order in
    let kept = c.cut_before-rest.new.tree in
    let parts : n.next ≡ kept ++ c.cut_before-rest.result = sym (ap (λ m. m.next) c.deref_mut.ensures.value) ∙ c.cut_before-rest.ensures.both in
    next_new IsNode c.deref_mut.result.now n kept kept c.deref_mut.ensures.value refl
    (with_next n.label n.value n.below n.next kept h (from_left (suc (first_byte n.label)) kept c.cut_before-rest.result (subst (AllFrom (suc (first_byte n.label))) parts h.placed.rising)))

pub returns-clause-both : goal.returns-clause-both
returns-clause-both g t c =
    let n = c.in-More.node.value in
    let kept = c.cut_before-rest.new.tree in
    let rest = c.cut_before-rest.result in
    let parts : n.next ≡ kept ++ rest = sym (ap (λ m. m.next) c.deref_mut.ensures.value) ∙ c.cut_before-rest.ensures.both in
    sym (c.in-More.ensures.says ∙ c.replace.ensures.value) ∙ level_parts n.label n.value n.below n.next kept rest parts
    ∙ ap (λ xs. xs ++ rest) (sym (c.close-2.ensures ∙ ap (λ m. level m.label m.value m.below kept) c.deref_mut.ensures.value))

pub returns-clause-before : goal.returns-clause-before
returns-clause-before g t c =
    let n = c.in-More.node.value in
    let byte = c.args.byte in
    let kept = c.cut_before-rest.new.tree in
    let first : first_byte n.label < byte = subst (λ l. first_byte l < byte) (c.as_slice.ensures.value ∙ ap (λ m. m.label) c.deref.ensures) (omega (arith, c.first_byte.ensures, c.if-first_byte-byte.false)) in
    subst (AllBelow byte) (sym (c.close-2.ensures ∙ ap (λ m. level m.label m.value m.below kept) c.deref_mut.ensures.value))
    (level_below byte n.label n.value n.below kept c.in-More.ensures.order.placed.labelled first c.cut_before-rest.ensures.before)
