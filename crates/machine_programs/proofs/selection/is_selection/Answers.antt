use Rattle.std.proofs.Common.{◌≡◌, ◌+◌, ◌<◌, ◌≤◌, ℕ, Bool, length, drop, Some, false, sym, subst, ◌∙◌, arith, eq-eqb}
use Rattle.std.specs.Prelude.{◌↔◌, IsTrue, slice_get}
use Rattle.std.proofs.lemmas.Bool.{eqb-true}
use Rattle.std.proofs.lemmas.Option.{slice_get_within}
use mathlib.Core.Bool.{false≢true}
use Rattle.relaxed_file.specs.Order.{IsSelection}
use Rattle.machine_programs.proofs.Selections.{next_taken, next_left, next_missing, at_end}
use Rattle.machine_programs.proofs.selection.is_selection.Goals.{then-is_next, else-is_next+else-is_settled, else-is_settled-via-then-is_settled+else-round-last, else-is_settled-via-else-is_settled}
use Rattle.machine_programs.proofs.selection.is_selection.Goals as goal

joined : (P Q R : Type 0) → P ↔ Q → Q ↔ R → P ↔ R
joined P Q R f g = (λ p. g.0 (f.0 p), λ r. f.1 (g.1 r))

-- an entry that the test refuses is not the next one
refused : (P : Type 0) (tested : Bool) → IsTrue tested ↔ P → tested ≡ false → P → ⊥
refused P tested means failed p = false≢true (sym failed ∙ means.1 p)

pub loop-entry-preserved : goal.loop-entry-preserved
loop-entry-preserved c =
    let last = c.args.last in
    let order = c.args.order.now in
    let chosen = c.args.chosen.now in
    let place = c.loop-entry.entry-index in
    let taken = c.loop-entry.taken in
    let x = c.entry-item.result in
    let Left : ℕ → Type 0 = λ n. IsSelection last (drop (place + 1) order) (drop n chosen) in
    elim c.if-is_next.branch [
      | then-is_next w ↦
          let next : (x.round ≤ last) × (slice_get chosen taken ≡ Some x) = c.is_next.ensures.0 w.if-is_next.true in
          let there : taken < length chosen = slice_get_within chosen taken x next.1 in
          record {
            within = let n : c.if-is_next.taken ≡ taken + 1 = w.taken-is in omega arith;
            decides = subst (λ n. IsSelection last order chosen ↔ Left n) (sym w.taken-is)
                (joined _ _ _ c.loop-entry.invariant.decides (next_taken last order chosen place taken x c.loop-entry-test.true c.entry-item.is next.1 next.0));
          }
      | else-is_next+else-is_settled w ↦ record {
        within = let n : c.if-is_next.taken ≡ taken = w.taken-is in let h : taken ≤ length chosen = c.loop-entry.invariant.within in omega arith;
        decides = subst (λ n. IsSelection last order chosen ↔ Left n) (sym w.taken-is)
            (joined _ _ _ c.loop-entry.invariant.decides (next_left last order chosen place taken x c.loop-entry-test.true c.entry-item.is
            (λ within same. refused _ c.is_next.result c.is_next.ensures w.if-is_next.false (within, same))
            (elim w.else-is_settled.branch [
              | else-is_settled-via-then-is_settled+else-round-last v ↦ λ settled. subst (λ r. last < r) v.round.ensures v.if-round-last.false
              | else-is_settled-via-else-is_settled v ↦ λ settled. absurd (false≢true (sym v.if-is_settled.false ∙ w.is_settled.ensures ∙ settled))
            ])));
      }
    ]

pub returns-then-round-last : goal.returns-then-round-last
returns-then-round-last c = (
  λ h. absurd (false≢true h),
  λ h. absurd (next_missing c.args.last c.args.order.now c.args.chosen.now c.loop-entry.entry-index c.loop-entry.taken c.entry-item.result c.loop-entry-test.true c.entry-item.is
      (λ within same. refused _ c.is_next.result c.is_next.ensures c.if-is_next.false (within, same))
      (sym c.is_settled.ensures ∙ c.if-is_settled.true) (omega arith) (c.loop-entry.invariant.decides.0 h)),
)

pub returns : goal.returns
returns c =
    let ends = at_end c.args.last c.args.order.now c.args.chosen.now c.loop-entry.entry-index c.loop-entry.taken c.loop-entry-test.false c.loop-entry.invariant.within in
    (λ h. c.loop-entry.invariant.decides.1 (ends.1 (eqb-true _ _ h)), λ h. eq-eqb _ _ (ends.0 (c.loop-entry.invariant.decides.0 h)))
