use Rattle.std.proofs.Common.{ap}
use Rattle.protocol.specs.Logged.{Logged}
use Rattle.master_waiting.proofs.Concerning.{same_files}
use Rattle.master_plan.proofs.Watching.{ended_if}
use Rattle.master_plan.proofs.Waits.{ended_if as waits_if}
use Rattle.master_plan.proofs.plan.Plan.end_lease_at.Goals as goal

pub invariant_of-self : goal.invariant_of-self
invariant_of-self g c =
    let i = c.self.inside in
    let is = c.set_lease_end.ensures in (
      (
        c.self.invariant.0.0,
        same_files i.state c.set_lease_end.new.self i.snapshots i.concerned_files i.concerned_chunks i.knows_concerned (ap (λ (l : Logged). l.names) is) (ap (λ (l : Logged). l.table.files) is) c.self.invariant.0.1,
      ),
      (
        ended_if i.config i.server_count i.holders i.reported i.doubted i.whole_until i.state c.set_lease_end.new.self c.args.handle.0 c.args.moment.0 c.set_lease_end.ensures c.self.invariant.1.0,
        waits_if i.snapshots i.all_wait_until c.waits_beside-waiting.result c.waits_beside-waiting.ensures.kept i.state c.set_lease_end.new.self c.args.handle.0 c.args.moment.0 c.set_lease_end.ensures
            c.waits_beside-waiting.ensures.lease c.self.invariant.1.1,
      ),
    )
