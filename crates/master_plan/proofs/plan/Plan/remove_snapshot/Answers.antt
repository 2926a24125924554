use Rattle.std.specs.Prelude.{◌==◌, ◌&&◌, not}
use Rattle.master_plan.proofs.Waits.{some_wait_if}
use Rattle.master_plan.proofs.plan.Plan.remove_snapshot.Goals as goal

pub invariant_of-self : goal.invariant_of-self
invariant_of-self g c =
    let i = c.self.inside in (
      (c.self.invariant.0.0, tt),
      (
        c.self.invariant.1.0,
        some_wait_if i.state (λ other. not ((c.args.client.0 == other.client) && (c.args.number == other.number))) i.snapshots c.remove_call.new.self i.all_wait_until c.remove_call.ensures c.self.invariant.1.1,
      ),
    )
