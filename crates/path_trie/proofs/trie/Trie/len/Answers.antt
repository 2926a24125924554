use Rattle.std.proofs.Common.{ap, ◌∙◌}
use Rattle.std.specs.FinMap as map
use Rattle.path_trie.proofs.Maps.{len_names}
use Rattle.path_trie.proofs.trie.Trie.len.Goals as goal

pub returns : goal.returns
returns g c = len_names c.self.inside.names c.self.inside.count c.self.invariant ∙ ap map.len c.self.view_is
