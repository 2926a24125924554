use Rattle.std.proofs.Common.{◌≡◌, ◌≢◌, List, ℕ, ◌++◌, sym, ap, subst, ◌∙◌, arith}
use Rattle.label_tree.specs.Entries.{IsPlaced, BeginsFrom, level, bytes_in}
use Rattle.label_tree.specs.Falls.{below_falls, next_falls}
use Rattle.label_tree.specs.Behind.{behind}
use Rattle.label_tree.proofs.Behind.{go_below, stop_here, go_next, more_filled}
use Rattle.label_tree.proofs.place.place.Goals as goal

pub returns-in-Some-rest_behind-clause-names : goal.returns-in-Some-rest_behind-clause-names
returns-in-Some-rest_behind-clause-names g c =
    let n = c.in-Some.node.now in
    let rest = c.loop-node.rest.now in
    let more = c.in-Some-rest_behind.more.now in
    let label : n.label ≡ rest ++ more = sym c.as_slice-label.ensures.value ∙ c.in-Some-rest_behind.ensures in
    let placed : IsPlaced (rest ++ more) n.below n.next = subst (λ l. IsPlaced l n.below n.next) label c.in-Some.ensures.1.placed in
    sym c.loop-node.invariant.0 ∙ ap (behind rest) c.in-Some.ensures.0 ∙ ap (λ l. behind rest (level l n.value n.below n.next)) label ∙ stop_here rest more n.value n.below n.next placed c.loop-node.invariant.1

pub loop-node-smaller-in-Some-rest_behind-2 : goal.loop-node-smaller-in-Some-rest_behind-2
loop-node-smaller-in-Some-rest_behind-2 g c =
    let n = c.in-Some.node.now in
    omega (arith, below_falls n.label n.value n.below n.next c.in-Some.ensures.1, ap bytes_in c.in-Some.ensures.0)

pub loop-node-preserved-in-Some-rest_behind-2 : goal.loop-node-preserved-in-Some-rest_behind-2
loop-node-preserved-in-Some-rest_behind-2 g c =
    let n = c.in-Some.node.now in
    let rest = c.loop-node.rest.now in
    let more = c.in-Some-rest_behind-2.more.now in
    let cut : rest ≡ n.label ++ more = c.in-Some-rest_behind-2.ensures ∙ ap (λ l. l ++ more) c.as_slice-label.ensures.value in
    let filled : BeginsFrom 0 more = more_filled rest n.label more cut (λ r e. c.in_default-rest_behind.ensures r (c.as_slice-label.ensures.value ∙ e)) in (
      sym (go_below n.label more n.value n.below n.next c.in-Some.ensures.1.placed filled)
          ∙ ap (λ q. behind q (level n.label n.value n.below n.next)) (sym cut) ∙ ap (behind rest) (sym c.in-Some.ensures.0) ∙ c.loop-node.invariant.0,
      filled,
    )

pub loop-node-smaller : goal.loop-node-smaller
loop-node-smaller g c =
    let n = c.in-Some.node.now in
    omega (arith, next_falls n.label n.value n.below n.next c.in-Some.ensures.1, ap bytes_in c.in-Some.ensures.0)

pub loop-node-preserved : goal.loop-node-preserved
loop-node-preserved g c =
    let n = c.in-Some.node.now in
    let rest = c.loop-node.rest.now in
    let one : (r : List ℕ) → rest ≢ n.label ++ r = λ r e. c.in_default-rest_behind-2.ensures r (e ∙ ap (λ l. l ++ r) (sym c.as_slice-label.ensures.value)) in
    let other : (r : List ℕ) → n.label ≢ rest ++ r = λ r e. c.in_default-rest_behind.ensures r (c.as_slice-label.ensures.value ∙ e) in
    (sym (go_next rest n.label n.value n.below n.next one other) ∙ ap (behind rest) (sym c.in-Some.ensures.0) ∙ c.loop-node.invariant.0, c.loop-node.invariant.1)
