use Rattle.laws_versions.proofs.PushedData.{pushed_data_are_the_clients}
use Rattle.laws_versions.proofs.pushed_data.pushed_data_are_the_clients.Goals as goal

pub returns : goal.returns
returns c = pushed_data_are_the_clients
