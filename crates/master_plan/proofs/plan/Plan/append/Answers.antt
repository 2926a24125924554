use Rattle.std.proofs.Common.{sym, ◌∙◌}
use Rattle.master_plan.proofs.Followed.{appended_if as concerned_if}
use Rattle.master_plan.proofs.Watching.{appended_if}
use Rattle.master_plan.proofs.Waits.{logged_if}
use Rattle.master_plan.proofs.plan.Plan.append.Goals as goal

pub invariant_of-self-2 : goal.invariant_of-self-2
invariant_of-self-2 g c =
    let i = c.self.inside in (
      (
        c.self.invariant.0.0,
        concerned_if i.state c.replay_at.new.state c.args.entry i.snapshots i.concerned_files i.concerned_chunks c.follow-known.new.chunks i.knows_concerned c.touches-touched.result c.follow-known.result
            (c.touches-touched.ensures i.snapshots c.in_ok-is_moved.ensures) c.in_ok-replay_at.ensures.ok (λ e. let s = c.follow-known.ensures e in (sym c.stays_known-stays.ensures ∙ s.0, s.1)) c.self.invariant.0.1,
      ),
      (
        appended_if i.config i.server_count i.reported i.whole_until c.doubt_granted-until.result c.doubt_granted-until.ensures.kept i.holders i.state c.replay_at.new.state i.doubted c.doubt_granted-until.new.doubted
            c.args.entry c.doubt_granted-until.ensures.doubted c.in_ok-replay_at.ensures.ok c.self.invariant.1.0,
        logged_if i.snapshots i.all_wait_until c.still_waiting-waiting.result c.still_waiting-waiting.ensures.kept i.state c.replay_at.new.state c.args.entry c.in_ok-is_moved.is_moved c.in_ok-is_moved.ensures
            c.in_ok-replay_at.ensures.ok c.still_waiting-waiting.ensures.names c.still_waiting-waiting.ensures.leases c.self.invariant.1.1,
      ),
    )
