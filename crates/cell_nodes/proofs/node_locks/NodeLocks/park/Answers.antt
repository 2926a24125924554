use Rattle.std.proofs.Common.{◌≡◌, ℕ, suc, ◌+◌, ◌<◌, [], ◌∷◌, ◌++◌, List, length, take, sym, ap, subst, ◌∙◌, arith, rules}
use Rattle.std.specs.Prelude.{map, All, get_or}
use Rattle.std.specs.Arc.{arc_value}
use Rattle.std.proofs.Math.Seq.{take-suc}
use Rattle.std.proofs.lemmas.List.{map-append}
use Rattle.std.proofs.lemmas.List.Elements.{All-push}
use Rattle.cell_seats.specs.NodeLocks.{NodeName}
use Rattle.cell_seats.specs.ParkedNodes.{ParkedNodeState, name_of, HasSeenAll}
use Rattle.cell_nodes.proofs.node_locks.NodeLocks.park.Goals as goal

pub loop-lock-preserved : goal.loop-lock-preserved
loop-lock-preserved g c =
    let locks = c.as_slice-lock-items.result.now in
    let at = c.loop-lock.lock-index in
    let was = c.loop-lock.parked in
    let one = c.park_node.result in
    let inside : at < length locks = search rules in
    let here : get_or locks at c.lock-item.result ≡ c.lock-item.result = search rules in
    let more : take (at + 1) locks ≡ take at locks ++ c.lock-item.result ∷ [] =
    ap (λ n. take n locks) (let next : at + 1 ≡ suc at = omega arith in next) ∙ (take-suc locks at c.lock-item.result inside ∙ ap (λ x. take at locks ++ x ∷ []) here) in
    let named : name_of one ≡ arc_value c.lock-item.result = c.park_node.ensures.name in
    record {
      names = ap (map name_of) c.push_reserved.ensures.items
          ∙ (map-append name_of was.items (one ∷ [])
          ∙ ((λ j. c.loop-lock.invariant.names j ++ (named j) ∷ [])
          ∙ (sym (map-append arc_value (take at locks) (c.lock-item.result ∷ []))
          ∙ ap (map arc_value) (sym more))));
      seen = subst (All (λ (p : ParkedNodeState). HasSeenAll p.cell c.count-count.result p)) (sym c.push_reserved.ensures.items)
          (All-push (λ (p : ParkedNodeState). HasSeenAll p.cell c.count-count.result p) was.items one c.loop-lock.invariant.seen (c.park_node.ensures.history, c.park_node.ensures.count));
      room = omega (arith, c.push_reserved.ensures.len, c.push_reserved.ensures.capacity, c.loop-lock.invariant.room, inside);
    }
