use Rattle.std.proofs.Common.{◌≡◌, ◌++◌, drop, map}
use Rattle.path_trie.specs.Below.{copies_of}
use Rattle.path_trie.specs.Copies.{texts_of}
use Rattle.path_trie.proofs.copy.copied_names.Given as goal

abbrev pub invariant-loop-one : goal.invariant-loop-one
invariant-loop-one g l = texts_of l.names.items ++ map (λ e. e.0) (copies_of l.from l.to (drop l.one-index l.found)) ≡ map (λ e. e.0) (copies_of l.from l.to l.found)
