use Rattle.std.proofs.Common.{List, subst}
use Rattle.protocol.specs.Master.{PendingSnapshot}
use Rattle.master_waiting.specs.Due.{WaitAt}
use Rattle.master_names.proofs.waits.notes_wait.Goals as goal

pub note_all_wait-requires : goal.note_all_wait-requires
note_all_wait-requires g c =
    let logged = c.args.plan.now.logged in
    subst (λ (ss : List PendingSnapshot). WaitAt logged ss c.in-Some.moment) c.snapshots.ensures c.in-Some.ensures
