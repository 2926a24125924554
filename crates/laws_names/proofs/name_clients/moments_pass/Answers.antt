use Rattle.laws_names.proofs.Ends.{moments_pass}
use Rattle.laws_names.proofs.name_clients.moments_pass.Goals as goal

pub returns : goal.returns
returns c = moments_pass
