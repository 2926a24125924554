use Rattle.std.proofs.Common.{◌∙◌, Bool, Option, ap₂, codes}
use Rattle.clap.specs.Walk.{Text}
use Rattle.clap.specs.Words.{found_of}
use Rattle.clap.proofs.WalkLemmas.{first_value-rows}
use Rattle.command_line.specs.Asking.{told}
use Rattle.command_line.proofs.command.told_in.Goals as goal

pub returns : goal.returns
returns c =
    let regions = c.get_str.ensures ∙ first_value-rows (found_of c.args.matches.now) (codes "regions") in
    let history = c.get_str-2.ensures ∙ first_value-rows (found_of c.args.matches.now) (codes "history") in
    ap₂ (λ (b : Bool) (w : Option Text × Option Text). told b w.0 w.1) c.is_given.ensures (λ i. (regions i, history i))
