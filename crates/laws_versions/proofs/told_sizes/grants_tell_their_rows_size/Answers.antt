use Rattle.laws_versions.proofs.RowSizes.{grants_tell_their_rows_size}
use Rattle.laws_versions.proofs.told_sizes.grants_tell_their_rows_size.Goals as goal

pub returns : goal.returns
returns c = grants_tell_their_rows_size
