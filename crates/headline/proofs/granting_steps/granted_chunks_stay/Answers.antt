use Rattle.headline.proofs.GrantedRows.{granted_chunks_stay}
use Rattle.headline.proofs.granting_steps.granted_chunks_stay.Goals as goal

pub returns : goal.returns
returns c = granted_chunks_stay
