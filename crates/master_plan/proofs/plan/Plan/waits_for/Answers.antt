use Rattle.std.proofs.Common.{◌≡◌, true, Bool, List, sym, ap, ◌∙◌, subst}
use Rattle.protocol.specs.Master.{PendingSnapshot}
use Rattle.protocol.specs.MasterSnapshots.{waits_for}
use Rattle.master_plan.specs.Plans.{PlanState, known}
use Rattle.master_waiting.specs.Concerned.{NumberSet, AreConcerned, IfKnown, is_in, copies_file, shares_chunk}
use Rattle.master_waiting.proofs.Concerning.{found}
use Rattle.master_plan.proofs.plan.Plan.waits_for.Goals as goal

pub returns-then-self-clause-answer : goal.returns-then-self-clause-answer
returns-then-self-clause-answer g c =
    let i = c.self.inside in
    let are = subst (λ (b : Bool). IfKnown b (AreConcerned i.state i.snapshots i.concerned_files i.concerned_chunks)) c.if-self.true c.self.invariant.0.1 in
    subst (λ (p : PlanState). c.has.result ≡ waits_for (known p) c.args.handle.0) c.self.view_is (c.has.ensures ∙ are.1 c.args.handle.0)

pub returns-clause-answer : goal.returns-clause-answer
returns-clause-answer g c =
    let i = c.self.inside in
    subst (λ (p : PlanState). c.has-waits.result ≡ waits_for (known p) c.args.handle.0) c.self.view_is
    (c.has-waits.ensures
    ∙ ap (λ (set : NumberSet). is_in set c.args.handle.0) c.in_ok-chunks.ensures
    ∙ (found i.state c.as_slice-2.result.now).1 c.args.handle.0
    ∙ ap (λ (ss : List PendingSnapshot). shares_chunk i.state ss c.args.handle.0) c.as_slice-2.ensures.value)

pub invariant_of-self : goal.invariant_of-self
invariant_of-self g c =
    let i = c.self.inside in (
      (
        c.self.invariant.0.0,
        (
          λ file.
              ap (λ (set : NumberSet). is_in set file) c.in_ok-files.ensures ∙ (found i.state c.as_slice.result.now).0 file ∙ ap (λ (ss : List PendingSnapshot). copies_file i.state ss file) c.as_slice.ensures.value,
          λ handle.
              ap (λ (set : NumberSet). is_in set handle) c.in_ok-chunks.ensures ∙ (found i.state c.as_slice-2.result.now).1 handle ∙ ap (λ (ss : List PendingSnapshot). shares_chunk i.state ss handle) c.as_slice-2.ensures.value,
        ),
      ),
      c.self.invariant.1,
    )
