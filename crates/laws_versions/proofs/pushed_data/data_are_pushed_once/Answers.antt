use Rattle.laws_versions.proofs.PushedData.{data_are_pushed_once}
use Rattle.laws_versions.proofs.pushed_data.data_are_pushed_once.Goals as goal

pub returns : goal.returns
returns c = data_are_pushed_once
