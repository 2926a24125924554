use Rattle.std.proofs.Common.{◌∙◌, codes, option_map}
use Rattle.clap.specs.Words.{found_of, rows_of}
use Rattle.clap.proofs.WalkLemmas.{first_value-rows}
use Rattle.command_line.proofs.ParseLemmas.{serve_is}
use Rattle.command_line.proofs.command.serving.Goals as goal

pub returns : goal.returns
returns c =
    let found = found_of c.args.matches.now in
    serve_is (rows_of found) c.in_ok-keep.keep (option_map (λ s. s.now) c.get_str-regions.result) c.in_ok-options.options c.in_ok-keep.ensures.all c.in_ok-options.ensures.all c.in_ok-keep.ensures.ok
    (c.get_str-regions.ensures ∙ first_value-rows found (codes "regions")) c.in_ok-options.ensures.ok
