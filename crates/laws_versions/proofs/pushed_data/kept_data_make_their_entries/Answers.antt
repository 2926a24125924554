use Rattle.laws_versions.proofs.PushedData.{kept_data_make_their_entries}
use Rattle.laws_versions.proofs.pushed_data.kept_data_make_their_entries.Goals as goal

pub returns : goal.returns
returns c = kept_data_make_their_entries
