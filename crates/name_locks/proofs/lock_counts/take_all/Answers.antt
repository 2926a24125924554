use Rattle.std.proofs.Common.{rules, ◌≡◌, ◌<◌, length, get_or}
use Rattle.name_locks.proofs.Changed.{takes_next}
use Rattle.name_locks.proofs.lock_counts.take_all.Goals as goal

pub loop-lock-preserved : goal.loop-lock-preserved
loop-lock-preserved c =
    let l = c.loop-lock in
    let locks = c.args.locks.now in
    let inside : l.lock-index < length locks = search rules in
    let item : get_or locks l.lock-index c.lock-item.result ≡ c.lock-item.result = search rules in
    takes_next c.args.counts.now l.counts c.take_one.new.counts locks l.lock-index c.lock-item.result inside item l.invariant c.take_one.ensures
