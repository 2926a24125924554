use Rattle.std.proofs.Common.{not, rules}
use Rattle.std.specs.Str.{bytes_eq}
use Rattle.std.proofs.lemmas.Fn.{filter_same}
use Rattle.machine_programs.proofs.name_list.take_away.Goals as goal

pub returns : goal.returns
returns c = filter_same _ (λ e. not (bytes_eq c.args.path.now e.0)) _ (λ x b f' k. search rules) _ _ c.retain.ensures.filtered
