use Rattle.std.proofs.Common.{◌++◌, not, sym, ap, ◌∙◌, arith}
use Rattle.gfs_types.specs.Paths.{root}
use Rattle.label_tree.specs.Entries.{own, is_nothing}
use Rattle.label_tree.specs.Behind.{behind}
use Rattle.path_trie.proofs.Fronts.{found_is, alive_there, slash_none, slash_below, slash_here}
use Rattle.path_trie.proofs.below.has_slash_behind.Goals as goal

pub returns-in_default : goal.returns-in_default
returns-in_default g c = slash_none c.args.front.now c.args.tree.now c.in_default.ensures.names

pub returns-in-empty : goal.returns-in-empty
returns-in-empty g c =
    let n = c.in-Some.node.now in
    c.is_some.ensures
    ∙ found_is c.place-in-empty.result (λ p. p.0.now) (λ p. own p.1.now.value ++ p.1.now.below) (behind root n.below) c.place-in-empty.ensures.names (alive_there c.place-in-empty.result (behind root n.below) c.place-in-empty.ensures.whole)
    ∙ ap (λ l. not (is_nothing l)) (sym (slash_below c.args.front.now c.in-Some.rest.now n.value c.args.tree.now n.below c.in-Some.ensures.names (omega (arith, c.in-empty.len_below))))

pub returns-in-len1-up : goal.returns-in-len1-up
returns-in-len1-up g c =
    let n = c.in-Some.node.now in
    slash_here c.args.front.now c.in-Some.rest.now c.args.tree.now (own n.value ++ n.below) c.in-Some.ensures.names c.in-len1-up.len_at_least c.in-Some.ensures.whole.alive
