use Rattle.std.proofs.Common.{◌∙◌, ap₂}
use Rattle.clap.specs.Words.{with_rule}
use Rattle.command_line.proofs.ProgramLemmas.{one_more}
use Rattle.command_line.proofs.command.with_options.Goals as goal

pub loop-name-preserved : goal.loop-name-preserved
loop-name-preserved c = c.in_ok-command.ensures.shape c.option.ensures.local ∙ ap₂ with_rule c.loop-name.invariant c.option.ensures.rule
    ∙ one_more _ c.args.options.now c.loop-name.name-index _ c.loop-name-test.true
