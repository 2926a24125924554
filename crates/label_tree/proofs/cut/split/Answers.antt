use Rattle.std.proofs.Common.{◌≡◌, ◌≢◌, ◌≤◌, [], Some, length, take, drop, ◌-◌, refl, ap, ◌∙◌, arith}
use Rattle.std.proofs.lemmas.Grind.{common_steps}
use Rattle.label_tree.specs.Entries.{level, put_path, IsNode, IsPlaced}
use Rattle.label_tree.specs.Nodes.{says}
use Rattle.label_tree.proofs.FirstNode.{blank, filled}
use Rattle.label_tree.proofs.Changed.{below_is}
use Rattle.label_tree.proofs.LabelCuts.{front, set_value, begins_some, rest_all, at_cut_node, put_at_cut, past_cut_placed, put_past_cut, absent_at_cut}
use Rattle.label_tree.proofs.cut.split.Goals as goal

pub returns-in_default-clause-absent : goal.returns-in_default-clause-absent
returns-in_default-clause-absent g c =
    let n = c.args.node.value in
    let p = c.args.path.now in
    let k = c.args.count in
    absent_at_cut n.label p k n.value n.below n.next c.requires.whole c.requires.cut

pub returns-then-is_empty-clause-absent : goal.returns-then-is_empty-clause-absent
returns-then-is_empty-clause-absent g c =
    let n = c.args.node.value in
    let p = c.args.path.now in
    let k = c.args.count in
    absent_at_cut n.label p k n.value n.below n.next c.requires.whole c.requires.cut

pub returns-in_Err-leaf-clause-absent : goal.returns-in_Err-leaf-clause-absent
returns-in_Err-leaf-clause-absent g c =
    let n = c.args.node.value in
    let p = c.args.path.now in
    let k = c.args.count in
    absent_at_cut n.label p k n.value n.below n.next c.requires.whole c.requires.cut

pub returns-clause-absent : goal.returns-clause-absent
returns-clause-absent g c =
    let n = c.args.node.value in
    let p = c.args.path.now in
    let k = c.args.count in
    absent_at_cut n.label p k n.value n.below n.next c.requires.whole c.requires.cut

pub close-requires-then-is_empty : goal.close-requires-then-is_empty
close-requires-then-is_empty g c =
    let n = c.args.node.value in
    let p = c.args.path.now in
    let k = c.args.count in
    let tail : says c.halves-front.result.1.value ≡ level (drop k n.label) n.value n.below [] = ap says c.halves-front.ensures.tail ∙ ap (λ m. level m.label n.value n.below m.next) c.in-Ok.ensures ∙ ap (λ xs. level xs n.value n.below []) (rest_all k c.as_slice.result.now) ∙ ap (λ xs. level (drop k xs) n.value n.below []) (c.as_slice.ensures.value ∙ ap (λ m. m.label) c.deref.ensures) in
    let old = c.deref_mut-then-is_empty.ensures.value ∙ c.set_value.ensures ∙ ap (set_value (Some c.args.value)) (c.deref_mut.ensures.value ∙ c.halves-front.ensures.front) in
    below_is IsNode c.set_below.new.self c.deref_mut-then-is_empty.result.now (set_value (Some c.args.value) (front k n)) c.tidied.result (level (drop k n.label) n.value n.below []) c.set_below.ensures old (c.tidied.ensures ∙ tail) (at_cut_node n.label p k n.value n.below n.next c.requires.whole c.requires.cut c.args.value)

pub returns-then-is_empty-clause-ok : goal.returns-then-is_empty-clause-ok
returns-then-is_empty-clause-ok g c =
    let n = c.args.node.value in
    let p = c.args.path.now in
    let k = c.args.count in
    let tail : says c.halves-front.result.1.value ≡ level (drop k n.label) n.value n.below [] = ap says c.halves-front.ensures.tail ∙ ap (λ m. level m.label n.value n.below m.next) c.in-Ok.ensures ∙ ap (λ xs. level xs n.value n.below []) (rest_all k c.as_slice.result.now) ∙ ap (λ xs. level (drop k xs) n.value n.below []) (c.as_slice.ensures.value ∙ ap (λ m. m.label) c.deref.ensures) in
    let old = c.deref_mut-then-is_empty.ensures.value ∙ c.set_value.ensures ∙ ap (set_value (Some c.args.value)) (c.deref_mut.ensures.value ∙ c.halves-front.ensures.front) in
    let none : length (drop k p) ≡ 0 = grind (arith, common_steps, c.is_empty.ensures, c.if-is_empty.true, ap length (rest_all k p)) in
    c.close-then-is_empty.ensures
    ∙ below_is (λ f w d x. level f w d x ≡ put_path p c.args.value (says n)) c.set_below.new.self c.deref_mut-then-is_empty.result.now (set_value (Some c.args.value) (front k n)) c.tidied.result (level (drop k n.label) n.value n.below []) c.set_below.ensures old (c.tidied.ensures ∙ tail) (put_at_cut n.label p k n.value n.below n.next c.requires.whole c.requires.cut c.args.value (blank (drop k p) none))

pub tidied-requires-2 : goal.tidied-requires-2
tidied-requires-2 g c =
    let n = c.args.node.value in
    let p = c.args.path.now in
    let k = c.args.count in
    let more : length (drop k p) ≢ 0 = grind (arith, common_steps, c.is_empty.ensures, c.if-is_empty.false, ap length (rest_all k p)) in
    let tail : says c.halves-front-2.result.1.value ≡ level (drop k n.label) n.value n.below [] = ap says c.halves-front-2.ensures.tail ∙ ap (λ m. level m.label n.value n.below m.next) c.in-Ok.ensures ∙ ap (λ xs. level xs n.value n.below []) (rest_all k c.as_slice.result.now) ∙ ap (λ xs. level (drop k xs) n.value n.below []) (c.as_slice.ensures.value ∙ ap (λ m. m.label) c.deref.ensures) in
    let d = put_path (drop k p) c.args.value (level (drop k n.label) n.value n.below []) in
    let pair = c.pair.ensures (take (length p - k) (drop k p)) c.args.value c.in_Ok-leaf.ensures.branch ∙ ap (λ q. put_path q c.args.value (says c.halves-front-2.result.1.value)) (rest_all k p) ∙ ap (put_path (drop k p) c.args.value) tail in
    let some : 1 ≤ length (drop k p) = omega (arith, more) in
    below_is (λ f w e x. IsPlaced f e x) c.set_below-2.new.self c.deref_mut-2.result.now (front k n) c.pair.result d c.set_below-2.ensures (c.deref_mut-2.ensures.value ∙ c.halves-front-2.ensures.front) pair (past_cut_placed n.label p k n.value n.below n.next c.requires.whole c.requires.cut c.args.value d (begins_some (drop k p) some) refl)

pub returns-clause-ok : goal.returns-clause-ok
returns-clause-ok g c =
    let n = c.args.node.value in
    let p = c.args.path.now in
    let k = c.args.count in
    let more : length (drop k p) ≢ 0 = grind (arith, common_steps, c.is_empty.ensures, c.if-is_empty.false, ap length (rest_all k p)) in
    let tail : says c.halves-front-2.result.1.value ≡ level (drop k n.label) n.value n.below [] = ap says c.halves-front-2.ensures.tail ∙ ap (λ m. level m.label n.value n.below m.next) c.in-Ok.ensures ∙ ap (λ xs. level xs n.value n.below []) (rest_all k c.as_slice.result.now) ∙ ap (λ xs. level (drop k xs) n.value n.below []) (c.as_slice.ensures.value ∙ ap (λ m. m.label) c.deref.ensures) in
    let d = put_path (drop k p) c.args.value (level (drop k n.label) n.value n.below []) in
    let pair = c.pair.ensures (take (length p - k) (drop k p)) c.args.value c.in_Ok-leaf.ensures.branch ∙ ap (λ q. put_path q c.args.value (says c.halves-front-2.result.1.value)) (rest_all k p) ∙ ap (put_path (drop k p) c.args.value) tail in
    c.tidied-2.ensures
    ∙ below_is (λ f w e x. level f w e x ≡ put_path p c.args.value (says n)) c.set_below-2.new.self c.deref_mut-2.result.now (front k n) c.pair.result d c.set_below-2.ensures (c.deref_mut-2.ensures.value ∙ c.halves-front-2.ensures.front) pair (put_past_cut n.label p k n.value n.below n.next c.requires.whole c.requires.cut c.args.value d (filled (drop k p) more) refl)
