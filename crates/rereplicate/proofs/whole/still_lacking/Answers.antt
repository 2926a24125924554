use Rattle.std.proofs.Common.{◌≡◌, None, sym, ap, ◌∙◌, subst}
use Rattle.std.specs.Ordering.{nat_cmp}
use Rattle.std.specs.FinMap.{get, get-entries}
use Rattle.std.specs.FinMap.Entries.{find}
use Rattle.chunk_table.specs.ChunkTable.{NumberTable}
use Rattle.rereplicate.proofs.Wholeness.{undoubted, not_in}
use Rattle.rereplicate.proofs.whole.still_lacking.Goals as goal

pub loop-number-init : goal.loop-number-init
loop-number-init g c = λ q _ none.
    c.requires.whole q (get-entries c.args.doubted.now q ∙ sym (ap (find nat_cmp q) (c.into_iter-number-iterator.ensures.into_iter_gives ∙ c.iter-number-items.ensures.rest)) ∙ none)

pub loop-number-preserved-in-Continue-1 : goal.loop-number-preserved-in-Continue-1
loop-number-preserved-in-Continue-1 g c = λ q none left.
    let k = c.in-Some.number.now in
    let both = undoubted c.loop-number.found k q (subst (λ (t : NumberTable Unit). get t q ≡ None) c.in_ok-insert.ensures.ok none) in
    c.loop-number.invariant q both.0 (not_in q k c.in-Some.field-0-1.now c.next.new.self c.loop-number.number-iterator c.in-Some.ensures.steps both.1 left)
