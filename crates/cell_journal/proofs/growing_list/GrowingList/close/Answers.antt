use Rattle.cell_journal.specs.Log.{listed}
use Rattle.cell_journal.proofs.Moving.{ended}
use Rattle.cell_journal.proofs.growing_list.GrowingList.close.Goals as goal

pub invariant_of-result : goal.invariant_of-result
invariant_of-result g c =
    let a = c.end.ensures.log in
    (ended c.self.inside.seen.log a.0 c.end.new.seen.log c.self.inside.pen.nib.key a.1 a.2 c.self.invariant.3 a.3).0

pub returns : goal.returns
returns g c =
    let a = c.end.ensures.log in
    let end = ended c.self.inside.seen.log a.0 c.end.new.seen.log c.self.inside.pen.nib.key a.1 a.2 c.self.invariant.3 a.3 in
    rw (← c.self.view_is) (λ j. listed (c.end.ensures.book j) (end.1 j))
