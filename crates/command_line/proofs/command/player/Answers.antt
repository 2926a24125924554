use Rattle.std.proofs.Common.{◌++◌, ◌∷◌, [], ◌∙◌, ap, ap₂}
use Rattle.std.proofs.lemmas.Result.{IfOk-weaker}
use Rattle.clap.specs.Walk.{Rule}
use Rattle.clap.specs.Words.{Shape}
use Rattle.clap.specs.Simple.{App}
use Rattle.command_line.specs.Program.{keep, option_named}
use Rattle.command_line.proofs.command.player.Goals as goal

abbrev with_last : Shape → Rule → Shape
with_last s a = record s { rules = s.rules ++ a ∷ [] }

pub returns : goal.returns
returns c =
    let kept = ap (λ (a : App). a.top) c.in_ok-command-2.ensures ∙ ap (λ (s : Shape). with_last s (option_named keep)) c.in_ok-command.ensures in
    let third = ap (λ (a : App). a.top) (c.in_ok-command-3.ensures.shape c.regions_option.ensures.local) ∙ ap₂ with_last kept c.regions_option.ensures.rule in
    let fourth = ap (λ (a : App). a.top) (c.in_ok-command-4.ensures.shape c.word_option.ensures.local) ∙ ap₂ with_last third c.word_option.ensures.rule in
    IfOk-weaker c.arg-3.result _ _ (λ r h. ap (λ (a : App). a.top) (h.shape c.flag.ensures.local) ∙ ap₂ with_last fourth c.flag.ensures.rule) c.arg-3.ensures
