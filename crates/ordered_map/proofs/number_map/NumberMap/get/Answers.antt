use Rattle.std.proofs.Common.{None, ap, ◌∙◌, Some}
use Rattle.std.specs.Option.{option_copied}
use Rattle.std.specs.FinMap as map
use Rattle.ordered_map.proofs.Numbers.{found_in}
use Rattle.ordered_map.proofs.number_map.NumberMap.get.Goals as goal

pub returns-in_err-block : goal.returns-in_err-block
returns-in_err-block g c =
    ap option_copied c.from_residual.ensures ∙ found_in c.args.key _ None c.in_err-block.ensures.value ∙ ap (λ m. map.get m c.args.key) c.self.view_is

pub returns : goal.returns
returns g c =
    c.get-2.ensures ∙ ap (map.get c.in_ok-block.block.now) c.place_of.ensures.value
    ∙ found_in c.args.key _ (Some c.in_ok-block.block.now) c.in_ok-block.ensures.value ∙ ap (λ m. map.get m c.args.key) c.self.view_is
