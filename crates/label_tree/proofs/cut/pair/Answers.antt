use Rattle.std.proofs.Common.{◌≡◌, ◌<◌, ap, ◌∙◌, arith}
use Rattle.label_tree.specs.Fronts.{first_byte}
use Rattle.label_tree.specs.Entries.{level, put_path, IsNode, IsPlaced}
use Rattle.label_tree.specs.Nodes.{says}
use Rattle.label_tree.proofs.Changed.{next_is}
use Rattle.label_tree.proofs.LabelCuts.{first_node, later_placed, leaf_first, leaf_later}
use Rattle.label_tree.proofs.cut.pair.Goals as goal

pub close-requires : goal.close-requires
close-requires g c =
    let tail = c.args.tail.value in
    let leaf = c.args.leaf.value in
    let below : first_byte leaf.label < first_byte tail.label = omega (arith, c.if-first_byte.true, c.first_byte.ensures ∙ ap first_byte (c.as_slice.ensures.value ∙ ap (λ m. m.label) c.deref.ensures), c.first_byte-2.ensures ∙ ap first_byte (c.as_slice-2.ensures.value ∙ ap (λ m. m.label) c.deref-2.ensures)) in
    next_is IsNode c.set_next.new.self c.deref_mut.result.now leaf c.tidied.result (says tail) c.set_next.ensures c.deref_mut.ensures.value c.tidied.ensures (first_node leaf tail c.requires.leaf c.requires.tail below)

pub returns-then-first_byte : goal.returns-then-first_byte
returns-then-first_byte g c path value b =
    let tail = c.args.tail.value in
    let leaf = c.args.leaf.value in
    let below : first_byte leaf.label < first_byte tail.label = omega (arith, c.if-first_byte.true, c.first_byte.ensures ∙ ap first_byte (c.as_slice.ensures.value ∙ ap (λ m. m.label) c.deref.ensures), c.first_byte-2.ensures ∙ ap first_byte (c.as_slice-2.ensures.value ∙ ap (λ m. m.label) c.deref-2.ensures)) in
    c.close.ensures
    ∙ next_is (λ f v d x. level f v d x ≡ put_path path value (says tail)) c.set_next.new.self c.deref_mut.result.now leaf c.tidied.result (says tail) c.set_next.ensures c.deref_mut.ensures.value c.tidied.ensures
    (leaf_first tail leaf path value c.requires.tail b below)

pub tidied-requires-2 : goal.tidied-requires-2
tidied-requires-2 g c =
    let tail = c.args.tail.value in
    let leaf = c.args.leaf.value in
    let above : first_byte tail.label < first_byte leaf.label = omega (arith, c.requires.apart, c.if-first_byte.false, c.first_byte.ensures ∙ ap first_byte (c.as_slice.ensures.value ∙ ap (λ m. m.label) c.deref.ensures), c.first_byte-2.ensures ∙ ap first_byte (c.as_slice-2.ensures.value ∙ ap (λ m. m.label) c.deref-2.ensures)) in
    next_is (λ f v d x. IsPlaced f d x) c.set_next-2.new.self c.deref_mut-2.result.now tail c.close-2.result (says leaf) c.set_next-2.ensures c.deref_mut-2.ensures.value c.close-2.ensures (later_placed tail leaf c.requires.tail c.requires.leaf above)

pub returns : goal.returns
returns g c path value b =
    let tail = c.args.tail.value in
    let leaf = c.args.leaf.value in
    let above : first_byte tail.label < first_byte leaf.label = omega (arith, c.requires.apart, c.if-first_byte.false, c.first_byte.ensures ∙ ap first_byte (c.as_slice.ensures.value ∙ ap (λ m. m.label) c.deref.ensures), c.first_byte-2.ensures ∙ ap first_byte (c.as_slice-2.ensures.value ∙ ap (λ m. m.label) c.deref-2.ensures)) in
    c.tidied-2.ensures
    ∙ next_is (λ f v d x. level f v d x ≡ put_path path value (says tail)) c.set_next-2.new.self c.deref_mut-2.result.now tail c.close-2.result (says leaf) c.set_next-2.ensures c.deref_mut-2.ensures.value c.close-2.ensures
    (leaf_later tail leaf path value c.requires.tail c.requires.tail_alone b above)
