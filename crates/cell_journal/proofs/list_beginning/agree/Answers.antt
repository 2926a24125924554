use Rattle.std.proofs.Common.{ap, subst}
use mathlib.Core.List.{IsPrefix}
use Rattle.cell_journal.specs.Log.{items_of}
use Rattle.cell_journal.proofs.Turning.{items_grow, nothing_follows}
use Rattle.cell_journal.proofs.list_beginning.agree.Goals as goal

pub returns : goal.returns
returns g c =
    let v = c.beginning.inside.seen.log in
    let o = c.whole.inside.seen.log in
    let all = c.learn.new.self.log in
    let k = c.learn.ensures in
    let mine : IsPrefix v all = subst (λ l. IsPrefix l all) (ap (λ s. s.log) c.again-both.ensures) k.2 in
    let same = nothing_follows k.4.0 o all k.4.1.legal k.3 c.whole.invariant in
    rw (← c.beginning.view_is, ← c.whole.view_is) (subst (λ l. IsPrefix (items_of v) l) same (items_grow v all mine))
