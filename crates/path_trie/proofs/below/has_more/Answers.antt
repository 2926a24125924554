use Rattle.std.proofs.Common.{◌++◌, not, sym, ap, ◌∙◌}
use Rattle.label_tree.specs.Entries.{own}
use Rattle.path_trie.proofs.Fronts.{more_here}
use Rattle.path_trie.proofs.below.has_more.Goals as goal

pub returns-then-not-is_empty : goal.returns-then-not-is_empty
returns-then-not-is_empty g c =
    let n = c.in-Some.node.now in
    ap not c.if-not-is_empty.true
    ∙ sym (more_here c.args.front.now c.in-Some.rest.now c.args.tree.now (own n.value ++ n.below) c.in-Some.ensures.names (sym c.if-not-is_empty.ensures) c.in-Some.ensures.whole.alive)
