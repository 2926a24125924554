use Rattle.std.proofs.Common.{◌≡◌, ◌-◌}
use Rattle.std.specs.FinMap.{entries}
use Rattle.rereplicate.specs.Clones.{better, best_offer}
use Rattle.rereplicate.proofs.Handles.{best_on}
use Rattle.rereplicate.proofs.next.best.Given as goal

abbrev pub invariant-loop-number : goal.invariant-loop-number
invariant-loop-number g l =
    let known = g.H.Holders.servers l.holders in
    let chunks = l.table.table.chunks in
    better l.best (best_on known l.now.0 chunks l.number (l.table.next_handle - l.number)) ≡ best_offer known l.now.0 (entries chunks)
