use Rattle.std.proofs.Common.{◌≡◌, [], ◌∷◌, Some, sym, ap, ◌∙◌, subst}
use Rattle.std.specs.Ordering.{nat_cmp}
use Rattle.std.specs.Cmp.Lexicographic.{slice_cmp}
use Rattle.std.specs.BTreeMap.{Updates}
use Rattle.gfs_types.specs.Paths.{Path}
use Rattle.name_locks.specs.LockCounts.{Counts, AddsAll, count_of, one_more}
use Rattle.name_locks.proofs.Changed.{counts_more}
use Rattle.name_locks.proofs.lock_counts.add_one.Goals as goal

pub returns-clause-ok : goal.returns-clause-ok
returns-clause-ok c =
    let lock = c.args.lock.now in
    let more = c.in_ok-more.more in
    let old = c.get_mut.follows.lender-at-none in
    let same : old ≡ c.args.counts.now = c.get_mut.follows.holds-at-none in
    let is : more ≡ one_more lock.1 (count_of old lock.0) = c.in_ok-more.ensures ∙ ap (one_more lock.1) (c.count_of.ensures ∙ ap (λ (m : Counts). count_of m lock.0) (sym same)) in
    let put = subst (λ (k : Path). Updates (slice_cmp nat_cmp) old c.insert.new.self k (Some more)) c.in_ok-copy.ensures c.in_ok-insert.ensures.updates in
    subst (λ (m : Counts). AddsAll m c.insert.new.self (lock ∷ [])) same (counts_more old c.insert.new.self lock more is put)
