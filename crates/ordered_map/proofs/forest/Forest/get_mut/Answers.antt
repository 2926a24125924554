use Rattle.std.proofs.Common.{None, Some, is_some, refl, sym, ap, ◌∙◌}
use Rattle.std.specs.FinMap as map
use Rattle.ordered_map.proofs.Sorted.{rising_of}
use Rattle.ordered_map.proofs.Variants.{match_map, either}
use Rattle.ordered_map.proofs.Forests.{forest, found_in, changed_to, changed_whole, kept_at, kept_whole}
use Rattle.ordered_map.proofs.forest.Forest.get_mut.Goals as goal

pub returns-in_err-leaf : goal.returns-in_err-leaf
returns-in_err-leaf g c =
    let same = ap (λ m. forest m.entries) c.get_mut.follows.holds-at-none ∙ c.self.view_is in
    rw c.from_residual.ensures (
      (refl, (λ w. same), same),
      record {
        writes_back = tt;
        value = found_in c.args.key c.self.inside.leaves.entries c.self.invariant None c.in_err-leaf.ensures.value ∙ ap (λ m. map.get m c.args.key) c.self.view_is;
      },
    )

pub invariant_of-self-lent : goal.invariant_of-self-lent
invariant_of-self-lent g c r =
    let k = c.args.key in let es = c.self.inside.leaves.entries in let p = c.self.invariant in let b = c.in_ok-leaf.leaf.now in
    let was = c.in_ok-leaf.ensures.value in let there = ap is_some (sym was) in let none = c.get_mut-2.follows.lender-at-none in (
      (λ w.
          let m = c.get_mut-2.follows.lender w in let lent = c.get_mut.follows.holds m in
          either c.get_mut-2.result (c.get_mut-2.follows.holds w)
          (λ is. kept_whole k es p _ b m was (lent.3 there).0 (rising_of _ lent.4) is)
          (λ is. changed_whole k es p _ b m was (lent.3 there).0 (rising_of _ lent.4) (Some w) is)),
      kept_whole k es p _ b none was ((c.get_mut.follows.holds none).3 there).0 (rising_of _ (c.get_mut.follows.holds none).4) c.get_mut-2.follows.holds-at-none,
    )

pub returns : goal.returns
returns g c =
    let k = c.args.key in let es = c.self.inside.leaves.entries in let p = c.self.invariant in let b = c.in_ok-leaf.leaf.now in
    let was = c.in_ok-leaf.ensures.value in let there = ap is_some (sym was) in let none = c.get_mut-2.follows.lender-at-none in (
      (
        refl,
        (λ w.
            let m = c.get_mut-2.follows.lender w in let lent = c.get_mut.follows.holds m in
            match_map c.get_mut-2.result (c.get_mut-2.follows.holds w)
            (λ is. kept_at k es p _ b m was (lent.3 there).0 (rising_of _ lent.4) is ∙ c.self.view_is)
            (λ is. changed_to k es p _ b m was (lent.3 there).0 (rising_of _ lent.4) (Some w) is ∙ ap (λ m. map.insert m k w) c.self.view_is)),
        kept_at k es p _ b none was ((c.get_mut.follows.holds none).3 there).0 (rising_of _ (c.get_mut.follows.holds none).4) c.get_mut-2.follows.holds-at-none ∙ c.self.view_is,
      ),
      record {
        writes_back = tt;
        value = c.get_mut-2.ensures.value ∙ found_in k es p (Some b) was ∙ ap (λ m. map.get m k) c.self.view_is;
      },
    )
