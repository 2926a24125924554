use Rattle.std.proofs.Common.{◌≡◌, Bool, subst, List, length, sym, ap, ◌∙◌, nat_lt}
use Rattle.protocol.specs.Master.{PendingSnapshot}
use Rattle.std.specs.Prelude.{◌==◌}
use Rattle.std.proofs.lemmas.Bool.{eqb-true}
use Rattle.master_waiting.specs.Concerned.{AreConcerned, IfKnown}
use Rattle.master_waiting.proofs.Concerning.{live_on}
use Rattle.master_plan.proofs.Waits.{some_wait_if}
use Rattle.master_plan.proofs.plan.Plan.keep_live_snapshots.Goals as goal

pub invariant_of-self : goal.invariant_of-self
invariant_of-self g c =
    let i = c.self.inside in
    let left = length c.as_slice-left.result.now in
    let count = length c.as_slice-count.result.now in (
      (
        c.self.invariant.0.0,
        subst (λ (b : Bool). IfKnown b (AreConcerned i.state c.keep_live.new.self i.concerned_files i.concerned_chunks)) (sym c.are_still_known-self-inside.ensures) (
            live_on i.state (λ s. nat_lt i.clock s.deadline) i.snapshots c.keep_live.new.self i.concerned_files i.concerned_chunks i.knows_concerned (left == count) c.keep_live.ensures
            (λ e. sym (ap (λ (ss : List PendingSnapshot). length ss) c.as_slice-left.ensures.value) ∙ eqb-true left count e ∙ ap (λ (ss : List PendingSnapshot). length ss) c.as_slice-count.ensures.value) c.self.invariant.0.1),
      ),
      (
        c.self.invariant.1.0,
        some_wait_if i.state (λ s. nat_lt i.clock s.deadline) i.snapshots c.keep_live.new.self i.all_wait_until c.keep_live.ensures c.self.invariant.1.1,
      ),
    )
