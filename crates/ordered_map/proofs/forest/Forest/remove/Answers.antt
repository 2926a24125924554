use Rattle.std.proofs.Common.{◌/◌, None, Some, is_some, sym, ap, ◌∙◌}
use Rattle.std.specs.FinMap as map
use Rattle.ordered_map.proofs.Sorted.{rising_of}
use Rattle.ordered_map.proofs.Leaves.{remove_absent}
use Rattle.ordered_map.proofs.Forests.{OneLeaf, forest, found_in, changed_to, changed_whole, kept_at, kept_whole, let_go, let_go_whole}
use Rattle.ordered_map.proofs.forest.Forest.remove.Goals as goal
use Rattle.ordered_map.proofs.forest.Forest.remove.Goals.{then-is_empty+in-Some-1, then-is_empty+in-None-1, else-is_empty}

pub returns-in_err-leaf-clause-value : goal.returns-in_err-leaf-clause-value
returns-in_err-leaf-clause-value g c =
    c.from_residual.ensures ∙ found_in c.args.key c.self.inside.leaves.entries c.self.invariant None c.in_err-leaf.ensures.value ∙ ap (λ m. map.get m c.args.key) c.self.view_is

pub returns-in_err-leaf-clause-rest : goal.returns-in_err-leaf-clause-rest
returns-in_err-leaf-clause-rest g c =
    let k = c.args.key in
    ap (λ m. forest m.entries) c.get_mut.follows.holds-at-none ∙ c.self.view_is
    ∙ sym (remove_absent c.args.self.now k (ap (λ m. map.get m k) (sym c.self.view_is) ∙ sym (found_in k c.self.inside.leaves.entries c.self.invariant None c.in_err-leaf.ensures.value)))

pub invariant_of-self-in_err-value : goal.invariant_of-self-in_err-value
invariant_of-self-in_err-value g c =
    let m = c.remove.new.self in let was = c.in_ok-leaf.ensures.value in let lent = c.get_mut.follows.holds m in
    kept_whole c.args.key c.self.inside.leaves.entries c.self.invariant _ c.in_ok-leaf.leaf.now m was (lent.3 (ap is_some (sym was))).0 (rising_of _ lent.4) c.in_err-value.ensures.none

pub returns-in_err-value-clause-value : goal.returns-in_err-value-clause-value
returns-in_err-value-clause-value g c =
    let k = c.args.key in
    c.from_residual-in_err-value.ensures ∙ c.in_err-value.ensures.value ∙ found_in k c.self.inside.leaves.entries c.self.invariant (Some c.in_ok-leaf.leaf.now) c.in_ok-leaf.ensures.value
    ∙ ap (λ m. map.get m k) c.self.view_is

pub returns-in_err-value-clause-rest : goal.returns-in_err-value-clause-rest
returns-in_err-value-clause-rest g c =
    let k = c.args.key in let m = c.remove.new.self in let was = c.in_ok-leaf.ensures.value in let lent = c.get_mut.follows.holds m in
    changed_to k c.self.inside.leaves.entries c.self.invariant _ c.in_ok-leaf.leaf.now m was (lent.3 (ap is_some (sym was))).0 (rising_of _ lent.4) None c.in_err-value.ensures.rest
    ∙ ap (λ m. map.remove m k) c.self.view_is

pub returns-in_err-value-clause-none : goal.returns-in_err-value-clause-none
returns-in_err-value-clause-none g c =
    let m = c.remove.new.self in let was = c.in_ok-leaf.ensures.value in let lent = c.get_mut.follows.holds m in
    rw c.from_residual-in_err-value.ensures
    (kept_at c.args.key c.self.inside.leaves.entries c.self.invariant _ c.in_ok-leaf.leaf.now m was (lent.3 (ap is_some (sym was))).0 (rising_of _ lent.4) c.in_err-value.ensures.none ∙ c.self.view_is)

pub invariant_of-self-then-is_empty : goal.invariant_of-self-then-is_empty
invariant_of-self-then-is_empty g c =
    let k = c.args.key in let es = c.self.inside.leaves.entries in let p = c.self.invariant in let b = c.in_ok-leaf.leaf.now in
    let m = c.remove.new.self in let was = c.in_ok-leaf.ensures.value in let lent = c.get_mut.follows.holds m in
    let one : OneLeaf (k / 128) (Some m) es (c.get_mut.follows.lender m).entries = (lent.3 (ap is_some (sym was))).0 in
    let_go_whole k es p _ b m was one (rising_of _ lent.4) _ (changed_whole k es p _ b m was one (rising_of _ lent.4) None c.in_ok-value.ensures.rest)
    (c.is_empty.ensures c.if-is_empty.true) c.remove-then-is_empty.ensures.updates.0 (rising_of _ c.remove-then-is_empty.ensures.ordered)

pub invariant_of-self-else-is_empty : goal.invariant_of-self-else-is_empty
invariant_of-self-else-is_empty g c =
    let m = c.remove.new.self in let was = c.in_ok-leaf.ensures.value in let lent = c.get_mut.follows.holds m in
    changed_whole c.args.key c.self.inside.leaves.entries c.self.invariant _ c.in_ok-leaf.leaf.now m was (lent.3 (ap is_some (sym was))).0 (rising_of _ lent.4) None c.in_ok-value.ensures.rest

pub returns-clause-value : goal.returns-clause-value
returns-clause-value g c =
    let k = c.args.key in
    c.in_ok-value.ensures.value ∙ found_in k c.self.inside.leaves.entries c.self.invariant (Some c.in_ok-leaf.leaf.now) c.in_ok-leaf.ensures.value ∙ ap (λ m. map.get m k) c.self.view_is

pub returns-clause-rest : goal.returns-clause-rest
returns-clause-rest g c =
    let k = c.args.key in let es = c.self.inside.leaves.entries in let p = c.self.invariant in let b = c.in_ok-leaf.leaf.now in
    let m = c.remove.new.self in let was = c.in_ok-leaf.ensures.value in let lent = c.get_mut.follows.holds m in
    let one : OneLeaf (k / 128) (Some m) es (c.get_mut.follows.lender m).entries = (lent.3 (ap is_some (sym was))).0 in
    let taken = changed_whole k es p _ b m was one (rising_of _ lent.4) None c.in_ok-value.ensures.rest in
    let rest = changed_to k es p _ b m was one (rising_of _ lent.4) None c.in_ok-value.ensures.rest ∙ ap (λ m. map.remove m k) c.self.view_is in
    elim c.if-is_empty.branch [
      | then-is_empty+in-Some-1 w ↦ w.self-is ∙ let_go k es p _ b m was one (rising_of _ lent.4) _ taken (c.is_empty.ensures w.if-is_empty.true) w.remove-then-is_empty.ensures.updates.0 (rising_of _ w.remove-then-is_empty.ensures.ordered) ∙ rest
      | then-is_empty+in-None-1 w ↦ w.self-is ∙ let_go k es p _ b m was one (rising_of _ lent.4) _ taken (c.is_empty.ensures w.if-is_empty.true) w.remove-then-is_empty.ensures.updates.0 (rising_of _ w.remove-then-is_empty.ensures.ordered) ∙ rest
      | else-is_empty w ↦ w.self-is ∙ rest
    ]
