use Rattle.std.proofs.Common.{◌≡◌, ◌≢◌, ℕ, List, ◌++◌, length, MatchOption, refl, sym, ap, subst, ◌∙◌, arith}
use Rattle.std.proofs.lemmas.Grind.{common_steps}
use Rattle.label_tree.specs.Entries.{find_path, bytes_in}
use Rattle.label_tree.specs.Falls.{below_falls, next_falls}
use Rattle.label_tree.proofs.Levels.{find_at, find_below, find_next}
use Rattle.label_tree.proofs.FirstNode.{at_link, blank, filled}
use Rattle.label_tree.proofs.tree.Tree.get.Goals as goal

pub loop-here-init : goal.loop-here-init
loop-here-init g c = refl

pub returns-then-is_empty : goal.returns-then-is_empty
returns-then-is_empty g c =
    let n = c.in-More.node.value in
    let at = at_link c.here.view_is c.here.invariant c.in-More.is in
    let q = c.loop-here.rest.now in
    let cut : q ≡ c.as_slice.result.now ++ c.in-Some.more.now = subst (λ r. MatchOption r ((rest : List ℕ) → q ≢ c.as_slice.result.now ++ rest) (λ x. q ≡ c.as_slice.result.now ++ x.now)) c.in-Some.is c.rest_behind.ensures in
    let none : length c.in-Some.more.now ≡ 0 = grind (arith, common_steps, c.is_empty.ensures, c.if-is_empty.true) in
    c.as_ref.ensures.value ∙ ap (λ m. m.value) c.deref-then-is_empty.ensures
    ∙ sym (find_at q n.label c.in-Some.more.now n.value n.below n.next at.in_order.placed (cut ∙ ap (λ l. l ++ c.in-Some.more.now) (c.as_slice.ensures.value ∙ ap (λ m. m.label) c.deref.ensures)) (blank _ none))
    ∙ ap (find_path q) (sym at.says) ∙ c.loop-here.invariant

pub loop-here-smaller-in-Some : goal.loop-here-smaller-in-Some
loop-here-smaller-in-Some g c =
    let n = c.in-More.node.value in
    let at = at_link c.here.view_is c.here.invariant c.in-More.is in
    omega (arith, below_falls n.label n.value n.below n.next at.in_order, ap bytes_in at.says, ap (λ m. bytes_in m.below) c.deref-in-Some.ensures)

pub loop-here-preserved-in-Some : goal.loop-here-preserved-in-Some
loop-here-preserved-in-Some g c =
    let n = c.in-More.node.value in
    let at = at_link c.here.view_is c.here.invariant c.in-More.is in
    let q = c.loop-here.rest.now in
    let cut : q ≡ c.as_slice.result.now ++ c.in-Some.more.now = subst (λ r. MatchOption r ((rest : List ℕ) → q ≢ c.as_slice.result.now ++ rest) (λ x. q ≡ c.as_slice.result.now ++ x.now)) c.in-Some.is c.rest_behind.ensures in
    let some : length c.in-Some.more.now ≢ 0 = grind (arith, common_steps, c.is_empty.ensures, c.if-is_empty.false) in
    ap (λ m. find_path c.in-Some.more.now m.below) c.deref-in-Some.ensures
    ∙ sym (find_below q n.label c.in-Some.more.now n.value n.below n.next at.in_order.placed (cut ∙ ap (λ l. l ++ c.in-Some.more.now) (c.as_slice.ensures.value ∙ ap (λ m. m.label) c.deref.ensures)) (filled _ some))
    ∙ ap (find_path q) (sym at.says) ∙ c.loop-here.invariant

pub loop-here-smaller : goal.loop-here-smaller
loop-here-smaller g c =
    let n = c.in-More.node.value in
    let at = at_link c.here.view_is c.here.invariant c.in-More.is in
    omega (arith, next_falls n.label n.value n.below n.next at.in_order, ap bytes_in at.says, ap (λ m. bytes_in m.next) c.deref-in_default-rest_behind.ensures)

pub loop-here-preserved : goal.loop-here-preserved
loop-here-preserved g c =
    let n = c.in-More.node.value in
    let at = at_link c.here.view_is c.here.invariant c.in-More.is in
    let q = c.loop-here.rest.now in
    let apart : (rest : List ℕ) → q ≢ c.as_slice.result.now ++ rest = subst (λ r. MatchOption r ((rest : List ℕ) → q ≢ c.as_slice.result.now ++ rest) (λ x. q ≡ c.as_slice.result.now ++ x.now)) c.in_default-rest_behind.is c.rest_behind.ensures in
    ap (λ m. find_path q m.next) c.deref-in_default-rest_behind.ensures
    ∙ sym (find_next q n.label n.value n.below n.next (λ rest e. apart rest (e ∙ ap (λ l. l ++ rest) (sym (c.as_slice.ensures.value ∙ ap (λ m. m.label) c.deref.ensures)))))
    ∙ ap (find_path q) (sym at.says) ∙ c.loop-here.invariant

pub returns : goal.returns
returns g c =
    let at = at_link c.here.view_is c.here.invariant c.in_default.is in
    sym (ap (find_path c.loop-here.rest.now) at.says) ∙ c.loop-here.invariant
