use Rattle.std.proofs.Common.{◌≡◌, false, None, List, rules, ap, subst}
use Rattle.std.specs.Prelude.{◌==◌, is_some}
use Rattle.std.specs.List.{list_any}
use Rattle.std.specs.FinMap.{get}
use Rattle.protocol.specs.Master.{PendingSnapshot}
use Rattle.master_waiting.proofs.Bounds.{none_of}
use Rattle.master_waiting.proofs.waiting_list.WaitingSnapshots.is_stranger.Goals as goal

pub returns : goal.returns
returns c = λ e.
    let i = c.self.inside in
    let none : get i.clients c.args.client.0 ≡ None = search rules in
    subst (λ (ss : List PendingSnapshot). list_any (λ s. s.client == c.args.client.0) ss ≡ false) c.self.view_is (none_of i.clients c.args.client.0 i.snapshots (ap is_some none) (c.self.invariant).1)
