use Rattle.std.proofs.Common.{List, ℕ, subst}
use Rattle.serve.specs.Printing.{AreAllPrinted}
use Rattle.serve.proofs.Finishing.{all_done}
use Rattle.serve.proofs.run.outcome_of.Goals as goal

pub returns-clause-done : goal.returns-clause-done
returns-clause-done g c =
    let printed = subst (λ (l : List ℕ). AreAllPrinted l c.args.printed.now) c.as_slice.ensures.value (c.are_all_printed.ensures c.if-not-are_all_printed.false) in
    all_done g.S.Serving.of c.taken.inside.outcome c.taken.inside.asked.items c.args.printed.now c.taken.invariant printed

pub returns-clause-fault : goal.returns-clause-fault
returns-clause-fault g c = c.taken.invariant.stops
