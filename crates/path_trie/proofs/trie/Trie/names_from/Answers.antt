use Rattle.std.proofs.Common.{◌≡◌, ◌++◌, None, ap, ◌∙◌}
use Rattle.label_tree.specs.Entries.{under}
use Rattle.label_tree.specs.Behind.{behind}
use Rattle.path_trie.specs.Walks.{wanted}
use Rattle.path_trie.proofs.FrontNames.{texts_behind}
use Rattle.path_trie.proofs.LowerNames.{these}
use Rattle.path_trie.proofs.Walks.{all_wanted}
use Rattle.path_trie.proofs.trie.Trie.names_from.Goals as goal

pub add_behind-requires-clause-texts : goal.add_behind-requires-clause-texts
add_behind-requires-clause-texts g c = texts_behind c.extend_from_slice.new.self.items c.self.inside.names c.self.invariant.texts

pub returns : goal.returns
returns g c =
    let es = c.self.inside.names in
    let f = c.extend_from_slice.new.self.items in
    let same : f ≡ c.args.from.now = c.in_ok-extend_from_slice.ensures.items ∙ ap (λ xs. xs ++ c.as_bytes.result.now) c.new-front.ensures.items ∙ c.as_bytes.ensures.value in
    c.in_ok-add_behind.ensures
    ∙ ap (λ xs. xs ++ wanted None (under f (behind f es))) c.new-found.ensures.items
    ∙ all_wanted (under f (behind f es))
    ∙ (λ i. under (same i) (behind (same i) (these es c.self.inside.count c.args.self.now c.self.invariant c.self.view_is i)))
