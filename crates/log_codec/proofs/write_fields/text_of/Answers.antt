use Rattle.std.proofs.Common.{subst}
use Rattle.std.specs.Str.{IsUtf8}
use Rattle.log_codec.proofs.Texts.{path_in_utf8}
use Rattle.log_codec.proofs.write_fields.text_of.Goals as goal

pub returns-clause-utf8 : goal.returns-clause-utf8
returns-clause-utf8 c = path_in_utf8 c.args.text.now c.requires (subst IsUtf8 c.as_str.ensures c.as_str.utf8)
