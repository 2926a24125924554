use Rattle.std.proofs.Common.{List, sym, ◌∙◌, subst}
use Rattle.name_locks.specs.Locks.{Lock}
use Rattle.name_locks.specs.LockCounts.{TakesAll}
use Rattle.name_locks.proofs.Counts.{gone_counts}
use Rattle.name_locks.proofs.table.LockTable.give.Goals as goal

pub invariant_of-self : goal.invariant_of-self
invariant_of-self c =
    let i = c.self.inside in
    let removed = c.try_remove in
    let own = sym removed.ensures.value ∙ c.in-Some.is in
    let takes = subst (λ (ls : List Lock). TakesAll i.counts c.take_all.new.counts ls) c.as_slice.ensures c.take_all.ensures in
    gone_counts i.taken.slots removed.new.self.slots i.counts c.take_all.new.counts c.ticket.inside.key c.in-Some.locks own
    (record { changed = removed.ensures.updates.changed; others = removed.ensures.updates.others }) takes c.self.invariant
