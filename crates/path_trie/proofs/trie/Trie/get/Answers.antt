use Rattle.std.proofs.Common.{sym, ap, ◌∙◌}
use Rattle.std.specs.FinMap as map
use Rattle.label_tree.specs.Entries.{find_path}
use Rattle.path_trie.proofs.Maps.{get_names}
use Rattle.path_trie.proofs.trie.Trie.get.Goals as goal

pub returns : goal.returns
returns g c =
    let es = c.self.inside.names in
    c.get.ensures ∙ ap (λ q. find_path q es) (c.as_bytes.ensures.value ∙ c.as_str.ensures.text) ∙ sym (get_names es c.args.path.now) ∙ ap (λ m. map.get m c.args.path.now) c.self.view_is
