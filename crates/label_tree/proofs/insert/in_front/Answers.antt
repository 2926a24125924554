use Rattle.std.proofs.Common.{suc, arith}
use Rattle.label_tree.specs.Fronts.{first_byte}
use Rattle.label_tree.specs.Entries.{IsNode}
use Rattle.label_tree.specs.Nodes.{says}
use Rattle.label_tree.proofs.Levels.{all_level}
use Rattle.label_tree.proofs.Changed.{next_is}
use Rattle.label_tree.proofs.LabelCuts.{ahead_node, absent_before}
use Rattle.label_tree.proofs.insert.in_front.Goals as goal

pub close-requires-in_Ok-first : goal.close-requires-in_Ok-first
close-requires-in_Ok-first g c =
    let n = c.args.node.value in
    let b = c.in_Ok-first.first.value in
    let p = c.args.path.now in
    next_is IsNode c.set_next.new.self c.deref_mut.result.now b c.close.result (says n) c.set_next.ensures c.deref_mut.ensures.value c.close.ensures
    (ahead_node b p c.args.value (says n) c.in_Ok-first.ensures.branch (all_level (suc (first_byte p)) n.label n.value n.below n.next c.requires.whole.placed (omega (arith, c.requires.before))))

pub returns-in_Ok-first-clause-absent : goal.returns-in_Ok-first-clause-absent
returns-in_Ok-first-clause-absent g c =
    let n = c.args.node.value in
    let p = c.args.path.now in
    absent_before p (says n) c.requires.path (all_level (suc (first_byte p)) n.label n.value n.below n.next c.requires.whole.placed (omega (arith, c.requires.before)))

pub returns-in_Err-first-clause-absent : goal.returns-in_Err-first-clause-absent
returns-in_Err-first-clause-absent g c =
    let n = c.args.node.value in
    let p = c.args.path.now in
    absent_before p (says n) c.requires.path (all_level (suc (first_byte p)) n.label n.value n.below n.next c.requires.whole.placed (omega (arith, c.requires.before)))
