use Rattle.std.proofs.Common.{None, Some, is_some, refl, sym, ap, ◌∙◌}
use Rattle.std.specs.FinMap as map
use Rattle.ordered_map.specs.Places.{numbers}
use Rattle.ordered_map.proofs.NumberVariants.{on_some}
use Rattle.ordered_map.proofs.Numbers.{found_in, changed_to, kept_at}
use Rattle.ordered_map.proofs.number_map.NumberMap.get_mut.Goals as goal

pub returns-in_err-block : goal.returns-in_err-block
returns-in_err-block g c =
    rw c.from_residual.ensures (
      (refl, (λ w. tt), ap (λ m. numbers m.entries) c.get_mut.follows.holds-at-none ∙ c.self.view_is),
      record {
        writes_back = tt;
        value = found_in c.args.key c.self.inside.blocks.entries None c.in_err-block.ensures.value ∙ ap (λ m. map.get m c.args.key) c.self.view_is;
      },
    )

pub returns : goal.returns
returns g c =
    let k = c.args.key in let es = c.self.inside.blocks.entries in let b = c.in_ok-block.block.now in
    let none = c.get_mut-2.follows.lender-at-none in
    let was = c.in_ok-block.ensures.value in (
      (
        refl,
        (λ w. on_some c.get_mut-2.result (c.get_mut-2.follows.holds w) (λ is.
            changed_to k es _ b (c.get_mut-2.follows.lender w) was ((c.get_mut.follows.holds (c.get_mut-2.follows.lender w)).3 (ap is_some (sym was))).0 c.place_of.result (Some w) c.place_of.ensures.value is
            ∙ ap (λ m. map.insert m k w) c.self.view_is)),
        kept_at k es _ b none was ((c.get_mut.follows.holds none).3 (ap is_some (sym was))).0 c.get_mut-2.follows.holds-at-none ∙ c.self.view_is,
      ),
      record {
        writes_back = tt;
        value = c.get_mut-2.ensures.value ∙ ap (map.get b) c.place_of.ensures.value ∙ found_in k es (Some b) was ∙ ap (λ m. map.get m k) c.self.view_is;
      },
    )
