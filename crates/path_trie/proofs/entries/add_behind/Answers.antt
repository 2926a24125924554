use Rattle.std.proofs.Common.{◌≡◌, ◌++◌, option_copied, sym, ap, ◌∙◌}
use Rattle.label_tree.specs.Entries.{under, own}
use Rattle.label_tree.specs.Behind.{behind}
use Rattle.path_trie.specs.Texts.{are_texts}
use Rattle.path_trie.specs.Walks.{wanted}
use Rattle.path_trie.proofs.Walks.{place_listed, place_texts}
use Rattle.path_trie.proofs.entries.add_behind.Goals as goal

pub add_own-requires : goal.add_own-requires
add_own-requires g c =
    let n = c.in-Some.node.now in
    let r = c.in-Some.rest.now in
    let f = c.args.front.now.items in
    let names : behind f c.args.tree.now ≡ under r (own n.value ++ n.below) = ap (λ q. behind q c.args.tree.now) (sym c.as_slice.ensures.value) ∙ c.in-Some.ensures.names in
    let texts = place_texts f r n.value n.below (ap (λ xs. are_texts (under f xs)) (sym names) ∙ c.requires.texts) in
    ap (λ q. are_texts (under q (own n.value))) (c.as_slice-2.ensures.value ∙ c.in_ok-extend_from_slice.ensures.items) ∙ texts.own_text

pub add_names-requires : goal.add_names-requires
add_names-requires g c =
    let n = c.in-Some.node.now in
    let r = c.in-Some.rest.now in
    let f = c.args.front.now.items in
    let names : behind f c.args.tree.now ≡ under r (own n.value ++ n.below) = ap (λ q. behind q c.args.tree.now) (sym c.as_slice.ensures.value) ∙ c.in-Some.ensures.names in
    let texts = place_texts f r n.value n.below (ap (λ xs. are_texts (under f xs)) (sym names) ∙ c.requires.texts) in
    ap (λ q. are_texts (under q n.below)) c.in_ok-extend_from_slice.ensures.items ∙ texts.below_texts

pub returns : goal.returns
returns g c =
    let d = option_copied c.args.directory in
    let n = c.in-Some.node.now in
    let r = c.in-Some.rest.now in
    let f = c.args.front.now.items in
    let found = c.args.found.now.items in
    let q = c.extend_from_slice.new.self.items in
    let whole : q ≡ f ++ r = c.in_ok-extend_from_slice.ensures.items in
    let seen : c.as_slice-2.result.now ≡ f ++ r = c.as_slice-2.ensures.value ∙ whole in
    let names : behind f c.args.tree.now ≡ under r (own n.value ++ n.below) = ap (λ p. behind p c.args.tree.now) (sym c.as_slice.ensures.value) ∙ c.in-Some.ensures.names in
    c.in_ok-add_names.ensures.found ∙ ap (λ xs. xs ++ wanted d (under q n.below)) c.in_ok-add_own.ensures
    ∙ (λ i. (found ++ wanted d (under (seen i) (own n.value))) ++ wanted d (under (whole i) n.below))
    ∙ sym (place_listed d f r n.value n.below found) ∙ ap (λ xs. found ++ wanted d (under f xs)) (sym names)
