use Rattle.std.proofs.Common.{◌≡◌, ◌+◌, false, take, drop, length}
use Rattle.std.specs.Vec.Iter.{into_iter_items}
use Rattle.std.specs.FinMap.{get}
use Rattle.gfs_types.specs.Paths.{Path}
use Rattle.path_trie.specs.Below.{with_entries}
use Rattle.path_trie.specs.Copies.{paired, texts_of}
use Rattle.path_trie.proofs.Added.{is_among}
use Rattle.path_trie.proofs.trie.Trie.add_all.Given as goal

-- Adding the rest gives what is asked for, a name is left for each value, and other names stand as at the start.
abbrev pub invariant-loop-value : goal.invariant-loop-value
invariant-loop-value g l = record {
  rest_to_add : with_entries l.self (paired (drop l.count (texts_of l.names)) (into_iter_items l.value-iterator)) ≡ with_entries l.fn.self (paired (texts_of l.names) l.fn.values.items);
  as_many : l.count + length (into_iter_items l.value-iterator) ≡ length (texts_of l.names);
  others : (q : Path) → is_among q (take l.count (texts_of l.names)) ≡ false → get l.self q ≡ get l.fn.self q;
}
