use Rattle.std.proofs.Common.{List, sym, subst, IfSome}
use Rattle.protocol.specs.Master.{PendingSnapshot}
use Rattle.master_waiting.specs.Concerned.{AreConcerned, IfKnown}
use Rattle.master_waiting.specs.Due.{WaitAt}
use Rattle.master_plan.proofs.plan.Plan.note_awaited.Goals as goal

pub invariant_of-self : goal.invariant_of-self
invariant_of-self g c =
    let i = c.self.inside in (
      (
        c.self.invariant.0.0,
        subst (λ (ss : List PendingSnapshot). IfKnown i.knows_concerned (AreConcerned i.state ss i.concerned_files i.concerned_chunks)) (sym c.note.ensures) c.self.invariant.0.1,
      ),
      (
        c.self.invariant.1.0,
        subst (λ (ss : List PendingSnapshot). IfSome i.all_wait_until (WaitAt i.state ss)) (sym c.note.ensures) c.self.invariant.1.1,
      ),
    )
