use Rattle.headline.proofs.GoneHandles.{steps_let_go_what_stood}
use Rattle.headline.proofs.gone_handles.steps_let_go_what_stood.Goals as goal

pub returns : goal.returns
returns c = steps_let_go_what_stood
