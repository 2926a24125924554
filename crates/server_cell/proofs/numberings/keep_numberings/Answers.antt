use Rattle.std.proofs.Common.{rules}
use Rattle.std.proofs.lemmas.Fn.{filter_same}
use Rattle.protocol.specs.Seen.{is_numbering}
use Rattle.server_cell.proofs.numberings.keep_numberings.Goals as goal

pub returns : goal.returns
returns c = filter_same _ is_numbering _ (λ x b f' k. search rules) _ _ c.retain.ensures.filtered
