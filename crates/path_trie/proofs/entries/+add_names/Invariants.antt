use Rattle.std.proofs.Common.{◌≡◌, ◌≤◌, ◌++◌, true, option_copied}
use Rattle.label_tree.specs.Entries.{under, bytes_in}
use Rattle.path_trie.specs.Texts.{are_texts}
use Rattle.path_trie.specs.Walks.{wanted}
use Rattle.path_trie.proofs.entries.+add_names.Given as goal

abbrev pub invariant-loop-node : goal.invariant-loop-node
invariant-loop-node g l = record {
  listed : l.found.items ++ wanted (option_copied l.directory) (under l.front.items l.here) ≡ l.fn.found.items ++ wanted (option_copied l.directory) (under l.fn.front.items l.fn.tree);
  front_kept : l.front.items ≡ l.fn.front.items;
  texts : are_texts (under l.front.items l.here) ≡ true;
  within : bytes_in l.here ≤ bytes_in l.fn.tree;
}

abbrev pub decreases-loop-node : goal.decreases-loop-node
decreases-loop-node g l = bytes_in l.here

abbrev pub decreases-add_names : goal.decreases-add_names
decreases-add_names g l = bytes_in l.tree.now
