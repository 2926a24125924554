use Rattle.std.proofs.Common.{◌∙◌, ap, ap₂}
use Rattle.std.proofs.lemmas.Result.{IfOk-weaker}
use Rattle.clap.specs.Words.{Shape, app_of, with_subcommand}
use Rattle.clap.specs.Simple.{app_of_fields}
use Rattle.clap.proofs.SimpleLemmas.{plain_fields}
use Rattle.command_line.proofs.ProgramLemmas.{top_is}
use Rattle.command_line.proofs.command.command.Goals as goal

pub returns : goal.returns
returns c =
    let top = top_is (app_of c.new.result) (app_of c.version.result) (app_of c.about.result) (app_of c.disable_help_subcommand.result) (app_of c.subcommand_required.result)
    c.new.ensures.app (ap app_of_fields c.version.ensures) (ap app_of_fields c.about.ensures) (ap app_of_fields c.disable_help_subcommand.ensures)
    (ap app_of_fields c.subcommand_required.ensures) in
    let sim_is = c.in_ok-simulator.ensures in
    let first = c.in_ok-subcommand.ensures.shape (plain_fields c.in_ok-simulator.field-0 (ap (λ (s : Shape). s.is_plain) sim_is)).globals ∙ ap₂ with_subcommand top sim_is in
    let live_is = c.in_ok-player.ensures in
    let second = c.in_ok-subcommand-2.ensures.shape (plain_fields c.in_ok-player.field-0 (ap (λ (s : Shape). s.is_plain) live_is)).globals ∙ ap₂ with_subcommand first live_is in
    let serve_is = c.in_ok-server.ensures in
    IfOk-weaker c.subcommand-3.result _ _ (λ r h.
    h.shape (plain_fields c.in_ok-server.field-0 (ap (λ (s : Shape). s.is_plain) serve_is)).globals ∙ ap₂ with_subcommand second serve_is) c.subcommand-3.ensures
