use Rattle.std.proofs.Common.{◌∙◌, ap, ok_or}
use Rattle.clap.specs.Words.{found_of, rows_of}
use Rattle.clap.proofs.WalkLemmas.{first_value-rows}
use Rattle.script.specs.Numbers.{number_of}
use Rattle.command_line.specs.declared.command.CommandFault.TheVariants.{Bad}
use Rattle.command_line.proofs.OptionLemmas.{not_given, not_given_numbered, given_ok, given_numbered}
use Rattle.command_line.proofs.command.value.Goals as goal

pub returns-in-None-clause-ok : goal.returns-in-None-clause-ok
returns-in-None-clause-ok c =
    not_given (rows_of (found_of c.args.matches.now)) c.args.name.now c.args.default (c.in-None.ensures ∙ first_value-rows (found_of c.args.matches.now) c.args.name.now)

pub returns-in-None-clause-all : goal.returns-in-None-clause-all
returns-in-None-clause-all c = not_given_numbered (rows_of (found_of c.args.matches.now)) c.args.name.now (c.in-None.ensures ∙ first_value-rows (found_of c.args.matches.now) c.args.name.now)

pub returns-in-Some-clause-ok : goal.returns-in-Some-clause-ok
returns-in-Some-clause-ok c = given_ok (rows_of (found_of c.args.matches.now)) c.args.name.now c.in-Some.text.now c.args.default Bad c.ok_or.result
    (c.in-Some.ensures ∙ first_value-rows (found_of c.args.matches.now) c.args.name.now)
    (c.ok_or.ensures.value ∙ ap (λ o. ok_or o Bad) (c.number.ensures ∙ ap number_of c.as_bytes.ensures.value))

pub returns-in-Some-clause-all : goal.returns-in-Some-clause-all
returns-in-Some-clause-all c = given_numbered (rows_of (found_of c.args.matches.now)) c.args.name.now c.in-Some.text.now Bad c.ok_or.result
    (c.in-Some.ensures ∙ first_value-rows (found_of c.args.matches.now) c.args.name.now)
    (c.ok_or.ensures.value ∙ ap (λ o. ok_or o Bad) (c.number.ensures ∙ ap number_of c.as_bytes.ensures.value))
