use Rattle.std.proofs.Common.{◌≡◌, ◌++◌, drop, map}
use Rattle.path_trie.specs.Copies.{entries_at}
use Rattle.path_trie.proofs.copy.copied_values.Given as goal

abbrev pub invariant-loop-one : goal.invariant-loop-one
invariant-loop-one g l = l.values.items ++ map (λ e. e.1) (entries_at l.from (drop l.one-index l.found)) ≡ map (λ e. e.1) (entries_at l.from l.found)
