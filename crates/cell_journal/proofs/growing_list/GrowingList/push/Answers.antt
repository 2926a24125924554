use Rattle.std.proofs.Common.{sym, ◌∙◌, ap, subst, ℕ}
use Rattle.cell_journal.specs.Log.{IsTurn, written_of, last_next, listed}
use Rattle.cell_journal.specs.ListRules.{named}
use Rattle.cell_journal.proofs.Moving.{pushed}
use Rattle.cell_journal.proofs.growing_list.GrowingList.push.Goals as goal

pub invariant_of-self : goal.invariant_of-self
invariant_of-self g c =
    let i = c.self.invariant in
    let t = c.make-next.ensures in
    let a = c.add.ensures in
    let book = a.book ∙ t.seen.0 in
    let end = pushed c.self.inside.seen.log c.make-next.new.seen.log a.log.0 c.add.new.seen.log c.self.inside.pen.nib.key (last_next c.make-next.new.seen.log) _ t.seen.1 a.log.1 a.log.2 i.3 a.log.3 in
    (i.0 ∙ ap (λ b. named 0 b) (sym book), t.pen.0 ∙ sym book, t.pen.1, subst (λ (k : ℕ). IsTurn k (written_of c.add.new.seen.log)) (sym t.pen.2) end.1)

pub returns : goal.returns
returns g c =
    let i = c.self.invariant in
    let t = c.make-next.ensures in
    let a = c.add.ensures in
    let book = a.book ∙ t.seen.0 in
    let end = pushed c.self.inside.seen.log c.make-next.new.seen.log a.log.0 c.add.new.seen.log c.self.inside.pen.nib.key (last_next c.make-next.new.seen.log) _ t.seen.1 a.log.1 a.log.2 i.3 a.log.3 in
    rw (← c.self.view_is) (λ j. listed (book j) (end.0 j))
