use Rattle.std.proofs.Common.{◌≡◌, ◌+◌, ◌-◌, ◌≤◌, drop, length}
use Rattle.label_tree.specs.Fronts.{shared}
use Rattle.label_tree.proofs.front.shared_len.Given as goal

abbrev pub invariant-loop-count : goal.invariant-loop-count
invariant-loop-count l = record {
  counted : l.count + shared (drop l.count l.label) (drop l.count l.path) ≡ shared l.label l.path;
  in_label : l.count ≤ length l.label;
  in_path : l.count ≤ length l.path;
}

abbrev pub decreases-loop-count : goal.decreases-loop-count
decreases-loop-count l = length l.label - l.count
