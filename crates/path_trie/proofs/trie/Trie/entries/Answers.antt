use Rattle.std.proofs.Common.{◌++◌, [], None, ap, ◌∙◌}
use Rattle.label_tree.specs.Entries.{under}
use Rattle.path_trie.proofs.Fronts.{under_nil}
use Rattle.path_trie.specs.Texts.{are_texts}
use Rattle.path_trie.specs.Walks.{wanted}
use Rattle.path_trie.proofs.LowerNames.{these}
use Rattle.path_trie.proofs.Walks.{all_wanted}
use Rattle.path_trie.proofs.trie.Trie.entries.Goals as goal

pub add_names-requires : goal.add_names-requires
add_names-requires g c =
    let es = c.self.inside.names in
    ap (λ f. are_texts (under f es)) c.new-front.ensures.items ∙ ap are_texts (under_nil es) ∙ c.self.invariant.texts

pub returns : goal.returns
returns g c =
    let es = c.self.inside.names in
    c.in_ok-add_names.ensures.found
    ∙ ap (λ xs. xs ++ wanted None (under c.new-front.result.items es)) c.new-found.ensures.items
    ∙ ap (λ f. wanted None (under f es)) c.new-front.ensures.items
    ∙ all_wanted (under [] es) ∙ under_nil es ∙ these es c.self.inside.count c.args.self.now c.self.invariant c.self.view_is
