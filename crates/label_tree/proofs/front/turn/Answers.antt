use Rattle.label_tree.proofs.Turned.{turn_through, turn_cut}
use Rattle.label_tree.proofs.front.turn.Goals as goal

pub returns-then-count-label : goal.returns-then-count-label
returns-then-count-label c = turn_through c.args.label.now c.args.path.now c.shared_len-count.result c.shared_len-count.ensures c.if-count-label.true

pub returns-then-count-gt0 : goal.returns-then-count-gt0
returns-then-count-gt0 c = turn_cut c.args.label.now c.args.path.now c.shared_len-count.result c.shared_len-count.ensures c.if-count-label.false c.if-count-gt0.true
