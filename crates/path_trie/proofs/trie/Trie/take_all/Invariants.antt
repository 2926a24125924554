use Rattle.std.proofs.Common.{◌≡◌, drop}
use Rattle.path_trie.specs.Copies.{texts_of, without_names}
use Rattle.path_trie.proofs.trie.Trie.take_all.Given as goal

abbrev pub invariant-loop-name : goal.invariant-loop-name
invariant-loop-name g l = without_names (drop l.name-index (texts_of l.names)) l.self ≡ without_names (texts_of l.names) l.fn.self
