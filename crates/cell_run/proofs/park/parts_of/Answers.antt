use Rattle.std.proofs.Common.{sym, ap, subst}
use Rattle.cell_journal.specs.Identity.{Closed}
use Rattle.cell_run.specs.Parked.{parked_state, ArePartsOf}
use Rattle.cell_run.proofs.park.parts_of.Goals as goal

pub returns : goal.returns
returns c = ap (λ (j : Closed). parked_state j c.args.beside.made c.args.seats.items) c.new.ensures.journal

pub invariant_of-result : goal.invariant_of-result
invariant_of-result c =
    let beside = c.args.beside in
    subst (λ (j : Closed). ArePartsOf j beside.config beside.nothing c.args.sent c.args.nodes c.args.seats.items beside.servers beside.made) (sym c.new.ensures.journal) c.requires.parts
