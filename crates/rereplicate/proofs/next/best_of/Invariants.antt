use Rattle.std.proofs.Common.{◌≡◌}
use Rattle.std.specs.FinMap.{entries}
use Rattle.rereplicate.specs.Clones.{better, best_offer}
use Rattle.rereplicate.proofs.Handles.{best_over}
use Rattle.rereplicate.proofs.Among.{at_handle}
use Rattle.rereplicate.proofs.next.best_of.Given as goal

-- the best so far, with the best of what is left
abbrev pub invariant-loop-number : goal.invariant-loop-number
invariant-loop-number g l =
    let known = g.H.Holders.servers l.holders in
    let chunks = l.table.table.chunks in
    better l.best (best_over (at_handle known l.now.0 chunks) l.number-iterator) ≡ best_offer known l.now.0 (entries chunks)
