use Rattle.std.proofs.Common.{ap, ◌∙◌}
use Rattle.std.specs.FinMap.{entries}
use Rattle.std.specs.List.{list_all}
use Rattle.gfs_types.specs.Paths.{is_at_or_below}
use Rattle.path_trie.specs.Below.{copied_entries, with_entries}
use Rattle.path_trie.specs.Copies.{texts_of}
use Rattle.path_trie.proofs.Added.{all_names, paired_copies}
use Rattle.path_trie.proofs.Outcomes.{on_ok_along}
use Rattle.path_trie.proofs.Rests.{copies_there}
use Rattle.path_trie.proofs.trie.Trie.copy_below.Goals as goal

pub add_all-requires-clause-all_there : goal.add_all-requires-clause-all_there
add_all-requires-clause-all_there g c =
    let from = c.as_str-from.result.now in
    let top = c.as_str-top.result.now in
    let names = c.args.self.now in
    ap (list_all (is_at_or_below top)) (ap texts_of c.as_slice.ensures.value ∙ c.in_ok-copies.ensures.names)
    ∙ all_names (is_at_or_below top) (copied_entries names from top) ∙ copies_there from top (entries names)

pub returns-clause-ok : goal.returns-clause-ok
returns-clause-ok g c =
    let from = c.as_str-from.result.now in
    let top = c.as_str-top.result.now in
    let names = c.args.self.now in
    on_ok_along c.add_all.result (λ e. e
    ∙ ap (with_entries names) (paired_copies from top (entries names) (texts_of c.as_slice.result.now) c.in_ok-copies.copies.1.items (ap texts_of c.as_slice.ensures.value ∙ c.in_ok-copies.ensures.names) c.in_ok-copies.ensures.values
    ∙ (λ i. copied_entries names (c.as_str-from.ensures.text i) (c.as_str-top.ensures.text i))))
    c.add_all.ensures.ok
