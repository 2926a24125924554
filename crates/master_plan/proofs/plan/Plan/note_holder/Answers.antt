use Rattle.master_plan.proofs.Watching.{noted_if}
use Rattle.master_plan.proofs.plan.Plan.note_holder.Goals as goal

pub invariant_of-self-2 : goal.invariant_of-self-2
invariant_of-self-2 g c =
    let i = c.self.inside in (
      c.self.invariant.0,
      (
        noted_if i.config i.server_count i.reported i.whole_until c.doubt-until.result c.doubt-until.ensures.kept i.state i.holders c.note_version.new.holders i.doubted c.doubt-until.new.doubted
            c.from-server.result c.args.handle.0 c.args.version.0 c.doubt-until.ensures.doubted c.in_ok-note_version.ensures c.self.invariant.1.0,
        c.self.invariant.1.1,
      ),
    )
