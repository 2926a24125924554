use Rattle.std.proofs.Common.{◌∙◌}
use Rattle.log_codec.proofs.Lengths.{payload_len}
use Rattle.log_codec.proofs.sizes.encoded_len.Goals as goal

pub returns : goal.returns
returns c = c.payload_size.ensures ∙ payload_len c.args.entry.now
