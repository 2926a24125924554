use Rattle.std.proofs.Common.{◌≡◌, ◌<◌, List, sym, subst, arith}
use Rattle.std.proofs.lemmas.Bool.Decides.{nat_tests}
use Rattle.protocol.specs.Master.{PendingSnapshot}
use Rattle.protocol.specs.MasterSnapshots.{live_snapshots}
use Rattle.master_waiting.proofs.Bounds.{all_live}
use Rattle.master_waiting.proofs.waiting_list.WaitingSnapshots.all_live.Goals as goal

pub returns : goal.returns
returns c = λ e.
    let i = c.self.inside in
    let before : c.args.now < i.earliest = grind (arith, nat_tests) in
    subst (λ (ss : List PendingSnapshot). ss ≡ live_snapshots c.args.now ss) c.self.view_is (sym (all_live i.earliest c.args.now i.snapshots (c.self.invariant).0 before))
