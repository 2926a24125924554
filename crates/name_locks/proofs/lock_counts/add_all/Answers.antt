use Rattle.std.proofs.Common.{rules, ◌≡◌, ◌+◌, ◌<◌, length, get_or, sym, ap, ◌∙◌}
use Rattle.name_locks.proofs.Changed.{adds_next, if_no_err}
use Rattle.name_locks.proofs.lock_counts.add_all.Goals as goal

pub loop-lock-preserved : goal.loop-lock-preserved
loop-lock-preserved c =
    let l = c.loop-lock in
    let locks = c.args.locks.now in
    let inside : l.lock-index < length locks = search rules in
    let item : get_or locks l.lock-index c.lock-item.result ≡ c.lock-item.result = search rules in
    let one = if_no_err c.add_one.result (sym c.is_err.ensures.value ∙ c.if-is_err.false) c.add_one.ensures.ok in
    (ap (λ n. n + 1) (l.invariant).0, adds_next c.args.counts.now l.counts c.add_one.new.counts locks l.lock-index c.lock-item.result inside item (l.invariant).1 one)
