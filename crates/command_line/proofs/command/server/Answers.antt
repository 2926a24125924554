use Rattle.std.proofs.Common.{◌++◌, ◌∷◌, [], ◌∙◌, ap, ap₂}
use Rattle.std.proofs.lemmas.Result.{IfOk-weaker}
use Rattle.clap.specs.Walk.{Rule}
use Rattle.clap.specs.Words.{Shape}
use Rattle.clap.specs.Simple.{App, app_of_fields}
use Rattle.command_line.specs.Program.{keep, option_named, option_names, with_options}
use Rattle.command_line.proofs.command.server.Goals as goal

abbrev with_last : Shape → Rule → Shape
with_last s a = record s { rules = s.rules ++ a ∷ [] }

pub returns : goal.returns
returns c =
    let named = ap app_of_fields c.about-command.ensures ∙ c.new.ensures.app in
    let numbered = ap (λ (a : App). a.top) (c.in_ok-command.ensures ∙ ap (λ (a : App). with_options a option_names) named) in
    let kept = ap (λ (a : App). a.top) c.in_ok-command-2.ensures ∙ ap (λ (s : Shape). with_last s (option_named keep)) numbered in
    IfOk-weaker c.arg.result _ _ (λ r h. ap (λ (a : App). a.top) (h.shape c.regions_option.ensures.local) ∙ ap₂ with_last kept c.regions_option.ensures.rule) c.arg.ensures
