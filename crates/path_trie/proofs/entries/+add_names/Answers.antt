use Rattle.std.proofs.Common.{◌≡◌, ◌++◌, true, length, take, option_copied, sym, ap, ◌∙◌, arith, rules}
use Rattle.std.proofs.Math.Seq.{take-append_seam}
use Rattle.label_tree.specs.Entries.{under, own, level, bytes_in}
use Rattle.label_tree.specs.Falls.{below_falls, next_falls}
use Rattle.path_trie.specs.Texts.{are_texts}
use Rattle.path_trie.specs.Walks.{is_past, wanted}
use Rattle.path_trie.proofs.Walks.{none_listed, node_listed, node_texts, next_texts}
use Rattle.path_trie.proofs.entries.+add_names.Goals as goal

pub returns-then-is_past-clause-found : goal.returns-then-is_past-clause-found
returns-then-is_past-clause-found g t c =
    let d = option_copied c.args.directory in
    let f = c.args.front.now.items in
    none_listed d f c.args.tree.now c.args.found.now.items (ap (is_past d) (sym c.as_slice.ensures.value) ∙ sym c.is_past.ensures ∙ c.if-is_past.true)

pub add_names-requires : goal.add_names-requires
add_names-requires g t c κs within =
    let n = c.in-Some.node.now in
    let f = c.loop-node.front.items in
    let whole : c.extend_from_slice.new.self.items ≡ f ++ n.label = c.in_ok-extend_from_slice.ensures.items ∙ ap (λ l. f ++ l) c.as_slice-in-Some.ensures.value in
    let texts = node_texts f n.label n.value n.below n.next (ap (λ xs. are_texts (under f xs)) (sym c.in-Some.ensures.0) ∙ c.loop-node.invariant.texts) in
    (omega (arith, c.decreases, c.loop-node.invariant.within, below_falls n.label n.value n.below n.next c.in-Some.ensures.1, ap bytes_in c.in-Some.ensures.0), (within.0, (within.1.0, (within.1.1, ap (λ q. are_texts (under q n.below)) whole ∙ texts.below_texts))))

pub loop-node-smaller : goal.loop-node-smaller
loop-node-smaller g t c =
    let n = c.in-Some.node.now in
    omega (arith, next_falls n.label n.value n.below n.next c.in-Some.ensures.1, ap bytes_in c.in-Some.ensures.0)

pub loop-node-preserved : goal.loop-node-preserved
loop-node-preserved g t c =
    let d = option_copied c.args.directory in
    let n = c.in-Some.node.now in
    let f = c.loop-node.front.items in
    let found = c.loop-node.found.items in
    let q = c.extend_from_slice.new.self.items in
    let whole : q ≡ f ++ n.label = c.in_ok-extend_from_slice.ensures.items ∙ ap (λ l. f ++ l) c.as_slice-in-Some.ensures.value in
    let seen : c.as_slice-in-Some-2.result.now ≡ f ++ n.label = c.as_slice-in-Some-2.ensures.value ∙ whole in
    let first : c.len-len.result ≡ length c.args.front.now.items = search rules in
    let len : c.len-len.result ≡ length f = first ∙ ap length (sym c.loop-node.invariant.front_kept) in
    let back : c.truncate.new.self.items ≡ f = c.truncate.ensures.items ∙ (λ i. take (len i) ((c.in_ok-add_names.ensures.front ∙ whole) i)) ∙ take-append_seam f n.label in
    let is = sym c.in-Some.ensures.0 in
    let texts : are_texts (under f (level n.label n.value n.below n.next)) ≡ true = ap (λ xs. are_texts (under f xs)) is ∙ c.loop-node.invariant.texts in
    record {
      listed = ap (λ xs. xs ++ wanted d (under c.truncate.new.self.items n.next)) (c.in_ok-add_names.ensures.found ∙ ap (λ xs. xs ++ wanted d (under q n.below)) c.in_ok-add_own.ensures)
          ∙ (λ i. ((found ++ wanted d (under (seen i) (own n.value))) ++ wanted d (under (whole i) n.below)) ++ wanted d (under (back i) n.next))
          ∙ sym (node_listed d f n.label n.value n.below n.next found) ∙ ap (λ xs. found ++ wanted d (under f xs)) is ∙ c.loop-node.invariant.listed;
      front_kept = back ∙ c.loop-node.invariant.front_kept;
      texts = ap (λ p. are_texts (under p n.next)) back ∙ next_texts f n.label n.value n.below n.next texts;
      within = omega (arith, c.loop-node.invariant.within, next_falls n.label n.value n.below n.next c.in-Some.ensures.1, ap bytes_in c.in-Some.ensures.0);
    }
