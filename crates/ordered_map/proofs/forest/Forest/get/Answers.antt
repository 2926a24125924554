use Rattle.std.proofs.Common.{None, Some, ap, ◌∙◌}
use Rattle.std.specs.Option.{option_copied}
use Rattle.std.specs.FinMap as map
use Rattle.ordered_map.proofs.Forests.{found_in}
use Rattle.ordered_map.proofs.forest.Forest.get.Goals as goal

pub returns-in_err-leaf : goal.returns-in_err-leaf
returns-in_err-leaf g c =
    ap option_copied c.from_residual.ensures ∙ found_in c.args.key _ c.self.invariant None c.in_err-leaf.ensures.value ∙ ap (λ m. map.get m c.args.key) c.self.view_is

pub returns : goal.returns
returns g c =
    c.get-2.ensures ∙ found_in c.args.key _ c.self.invariant (Some c.in_ok-leaf.leaf.now) c.in_ok-leaf.ensures.value ∙ ap (λ m. map.get m c.args.key) c.self.view_is
