use Rattle.std.proofs.Common.{◌<◌, length, sym, subst}
use Rattle.std.specs.List.{remove}
use Rattle.master_waiting.specs.CallLocks.{AreLocked}
use Rattle.master_waiting.proofs.Locked.{locked_less}
use Rattle.master_waiting.proofs.locked_list.LockedSnapshots.remove_at.Goals as goal

pub invariant_of-self : goal.invariant_of-self
invariant_of-self c =
    let w = c.self.inside in
    let i = c.args.index in
    let after = c.give.new.self in
    let within = subst (λ ss. i < length ss) (sym c.self.view_is) c.requires in
    let less = locked_less w.snapshots.items w.tickets.items w.locks after i c.remove-ticket.result within c.remove-ticket.ensures.value c.give.ensures c.self.invariant in
    subst (λ ss. AreLocked ss c.remove-ticket.new.self.items after) (sym c.remove-snapshot.ensures.items)
    (subst (λ ts. AreLocked (remove w.snapshots.items i) ts after) (sym c.remove-ticket.ensures.items) less)
