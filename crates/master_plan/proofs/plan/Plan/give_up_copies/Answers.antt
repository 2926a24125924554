use Rattle.std.proofs.Common.{ap}
use Rattle.protocol.specs.Logged.{Logged}
use Rattle.master_waiting.proofs.Concerning.{same_files}
use Rattle.master_plan.proofs.Watching.{given_up_if}
use Rattle.master_plan.proofs.Waits.{none_given_up}
use Rattle.master_plan.proofs.plan.Plan.give_up_copies.Goals as goal

pub invariant_of-self-2 : goal.invariant_of-self-2
invariant_of-self-2 g c =
    let i = c.self.inside in
    let is = c.in_ok-give_up_copies.ensures.ok in (
      (
        c.self.invariant.0.0,
        same_files i.state c.give_up_copies.new.self i.snapshots i.concerned_files i.concerned_chunks i.knows_concerned (ap (λ (l : Logged). l.names) is) (ap (λ (l : Logged). l.table.files) is) c.self.invariant.0.1,
      ),
      (
        given_up_if i.config i.server_count i.holders i.reported i.doubted i.whole_until i.state c.give_up_copies.new.self c.args.handles.now c.in_ok-give_up_copies.ensures.ok c.self.invariant.1.0,
        none_given_up i.snapshots i.state c.give_up_copies.new.self c.args.handles.now i.all_wait_until c.waits_without-waiting.result c.waits_without-waiting.ensures c.in_ok-give_up_copies.ensures.ok c.self.invariant.1.1,
      ),
    )
