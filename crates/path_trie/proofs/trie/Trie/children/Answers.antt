use Rattle.std.proofs.Common.{◌++◌, Some, sym, ap, subst, ◌∙◌}
use Rattle.gfs_types.specs.Paths.{front_below}
use Rattle.label_tree.specs.Entries.{BeginsFrom, under}
use Rattle.label_tree.specs.Behind.{behind}
use Rattle.path_trie.specs.Walks.{wanted}
use Rattle.path_trie.proofs.FrontNames.{begins_below, children_of_map, texts_behind}
use Rattle.path_trie.proofs.trie.Trie.children.Goals as goal

pub add_behind-requires : goal.add_behind-requires
add_behind-requires g c =
    let f = c.in_ok-front.front.items in
    record {
      front = subst (BeginsFrom 0) (sym c.in_ok-front.ensures) (begins_below c.as_str-directory.result.now);
      texts = texts_behind f c.self.inside.names c.self.invariant.texts;
    }

pub returns : goal.returns
returns g c =
    let es = c.self.inside.names in
    let f = c.in_ok-front.front.items in
    let text = c.as_str-directory.ensures.text in
    c.in_ok-add_behind.ensures
    ∙ ap (λ xs. xs ++ wanted (Some c.as_str-directory.result.now) (under f (behind f es))) c.new-found.ensures.items
    ∙ ap (λ d. wanted (Some d) (under f (behind f es))) text
    ∙ children_of_map es c.self.inside.count c.args.self.now c.args.directory.now f c.self.invariant c.self.view_is (c.in_ok-front.ensures ∙ ap front_below text)
