use Rattle.std.proofs.Common.{◌/◌, None, Some, is_some, not, sym, ap, subst, ◌∙◌}
use Rattle.std.specs.FinMap as map
use Rattle.ordered_map.proofs.Sorted.{rising_of}
use Rattle.ordered_map.proofs.Variants.{ok_or_err, on_ok, on_err, ok_is}
use Rattle.ordered_map.proofs.Forests.{OneLeaf, found_in, changed_to, changed_whole, kept_at, kept_whole, first_of, first_whole}
use Rattle.ordered_map.proofs.forest.Forest.insert.Goals as goal

pub invariant_of-self : goal.invariant_of-self
invariant_of-self g c =
    let k = c.args.key in let es = c.self.inside.leaves.entries in let p = c.self.invariant in let b = c.in-Some.leaf.now in let m = c.insert.new.self in
    let was = c.in-Some.ensures.value in let lent = c.get_mut.follows.holds m in let there = ap is_some (sym was) in
    ok_or_err c.insert.result c.insert.ensures.ok c.insert.ensures.err
    (λ is. changed_whole k es p _ b m was (lent.3 there).0 (rising_of _ lent.4) (Some c.args.value) is)
    (λ is. kept_whole k es p _ b m was (lent.3 there).0 (rising_of _ lent.4) is)

pub returns-in-Some-clause-ok : goal.returns-in-Some-clause-ok
returns-in-Some-clause-ok g c =
    let k = c.args.key in let es = c.self.inside.leaves.entries in let p = c.self.invariant in let b = c.in-Some.leaf.now in let m = c.insert.new.self in
    let was = c.in-Some.ensures.value in let lent = c.get_mut.follows.holds m in let there = ap is_some (sym was) in
    on_ok c.insert.result c.insert.ensures.ok (λ is.
    changed_to k es p _ b m was (lent.3 there).0 (rising_of _ lent.4) (Some c.args.value) is ∙ ap (λ m. map.insert m k c.args.value) c.self.view_is)

pub returns-in-Some-clause-is_new : goal.returns-in-Some-clause-is_new
returns-in-Some-clause-is_new g c =
    ok_is c.insert.result _ _ c.insert.ensures.is_new
    (ap (λ o. not (is_some o)) (found_in c.args.key c.self.inside.leaves.entries c.self.invariant (Some c.in-Some.leaf.now) c.in-Some.ensures.value ∙ ap (λ m. map.get m c.args.key) c.self.view_is))

pub returns-in-Some-clause-err : goal.returns-in-Some-clause-err
returns-in-Some-clause-err g c =
    let k = c.args.key in let es = c.self.inside.leaves.entries in let p = c.self.invariant in let b = c.in-Some.leaf.now in let m = c.insert.new.self in
    let was = c.in-Some.ensures.value in let lent = c.get_mut.follows.holds m in let there = ap is_some (sym was) in
    on_err c.insert.result c.insert.ensures.err (λ is. kept_at k es p _ b m was (lent.3 there).0 (rising_of _ lent.4) is ∙ c.self.view_is)

pub invariant_of-self-in-None : goal.invariant_of-self-in-None
invariant_of-self-in-None g c =
    let k = c.args.key in let v = c.args.value in let m = c.insert-in-None.new.self in let fs = c.insert-in-None-2.new.self.entries in
    let kept = ap (λ m. m.entries) c.get_mut.follows.holds-at-none in
    let added = subst (λ es. OneLeaf (k / 128) (Some m) es fs) kept c.in_ok-insert-in-None-2.ensures.updates.0 in
    first_whole k c.self.inside.leaves.entries c.self.invariant fs m v c.in-None.ensures.value added (rising_of _ c.in_ok-insert-in-None-2.ensures.ordered)
    (c.in_ok-insert-in-None.ensures.ok ∙ ap (λ m. map.insert m k v) c.new-leaf.ensures)

pub returns-in_ok-insert-in-None-2-clause-ok : goal.returns-in_ok-insert-in-None-2-clause-ok
returns-in_ok-insert-in-None-2-clause-ok g c =
    let k = c.args.key in let v = c.args.value in let m = c.insert-in-None.new.self in let fs = c.insert-in-None-2.new.self.entries in
    let kept = ap (λ m. m.entries) c.get_mut.follows.holds-at-none in
    let added = subst (λ es. OneLeaf (k / 128) (Some m) es fs) kept c.in_ok-insert-in-None-2.ensures.updates.0 in
    first_of k c.self.inside.leaves.entries c.self.invariant fs m v c.in-None.ensures.value added (rising_of _ c.in_ok-insert-in-None-2.ensures.ordered)
    (c.in_ok-insert-in-None.ensures.ok ∙ ap (λ m. map.insert m k v) c.new-leaf.ensures) ∙ ap (λ m. map.insert m k v) c.self.view_is

pub returns-in_ok-insert-in-None-2-clause-is_new : goal.returns-in_ok-insert-in-None-2-clause-is_new
returns-in_ok-insert-in-None-2-clause-is_new g c =
    ap (λ o. not (is_some o)) (found_in c.args.key c.self.inside.leaves.entries c.self.invariant None c.in-None.ensures.value ∙ ap (λ m. map.get m c.args.key) c.self.view_is)
