use Rattle.std.proofs.Common.{List, [], ◌∷◌, sym, subst}
use Rattle.std.specs.Prelude.{Contains}
use Rattle.std.proofs.lemmas.List.Elements.{Contains-push}
use Rattle.cell_journal.proofs.Begins.{prefix_self}
use Rattle.embedded_cell.specs.declared.taken.Taken.{Taken}
use Rattle.embedded_cell.proofs.taken.take.Goals as goal

pub returns-then-has-clause-stays : goal.returns-then-has-clause-stays
returns-then-has-clause-stays c = prefix_self c.args.taken.now.items

pub returns-then-has-clause-has : goal.returns-then-has-clause-has
returns-then-has-clause-has c = subst (λ (l : List Taken). Contains l c.args.one) c.as_slice.ensures.value (c.has.ensures c.if-has.true)

pub returns-clause-stays : goal.returns-clause-stays
returns-clause-stays c = (c.args.one ∷ [], sym c.in_ok-push.ensures.items)

pub returns-clause-has : goal.returns-clause-has
returns-clause-has c = subst (λ (l : List Taken). Contains l c.args.one) (sym c.in_ok-push.ensures.items) (Contains-push c.args.taken.now.items c.args.one)
