use Rattle.laws_names.proofs.Beginnings.{calls_begin}
use Rattle.laws_names.proofs.name_clients.calls_begin.Goals as goal

pub returns : goal.returns
returns c = calls_begin
