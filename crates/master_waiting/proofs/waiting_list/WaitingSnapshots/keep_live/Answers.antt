use Rattle.std.proofs.Common.{◌≡◌, true, List, nat_lt, sym, ◌∙◌, subst}
use Rattle.protocol.specs.Master.{PendingSnapshot}
use Rattle.master_waiting.specs.Due.{are_due_from, are_from}
use Rattle.master_waiting.proofs.Bounds.{from_some}
use Rattle.master_waiting.proofs.waiting_list.WaitingSnapshots.keep_live.Goals as goal

pub invariant_of-self : goal.invariant_of-self
invariant_of-self c =
    let i = c.self.inside in (
      subst (λ (ss : List PendingSnapshot). are_due_from c.earliest_of-self-inside.result ss ≡ true) c.as_slice.ensures.value c.earliest_of-self-inside.ensures,
      subst (λ (ss : List PendingSnapshot). are_from i.clients ss ≡ true) (sym c.keep_live.ensures) (from_some i.clients (λ s. nat_lt c.args.now s.deadline) i.snapshots (c.self.invariant).1),
    )
