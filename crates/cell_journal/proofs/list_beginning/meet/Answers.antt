use Rattle.std.proofs.Common.{ap, subst}
use mathlib.Core.List.{IsPrefix}
use Rattle.cell_journal.proofs.Begins.{prefix_shorter}
use Rattle.cell_journal.specs.Log.{items_of}
use Rattle.cell_journal.proofs.Turning.{items_grow}
use Rattle.cell_journal.proofs.list_beginning.meet.Goals as goal

pub returns : goal.returns
returns g c =
    let v = c.one.inside.seen.log in
    let o = c.other.inside.seen.log in
    let all = c.learn.new.self.log in
    let k = c.learn.ensures in
    let mine : IsPrefix v all = subst (λ l. IsPrefix l all) (ap (λ s. s.log) c.again-both.ensures) k.2 in
    rw (← c.one.view_is, ← c.other.view_is) (λ le. prefix_shorter (items_of v) (items_of o) (items_of all) (items_grow v all mine) (items_grow o all k.3) le)
