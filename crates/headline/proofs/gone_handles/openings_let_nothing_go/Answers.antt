use Rattle.headline.proofs.GoneHandles.{openings_let_nothing_go}
use Rattle.headline.proofs.gone_handles.openings_let_nothing_go.Goals as goal

pub returns : goal.returns
returns c = openings_let_nothing_go
