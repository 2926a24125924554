use Rattle.tests_stores.proofs.ChunksGoing.{still_usable}
use Rattle.tests_stores.proofs.chunk_calls.look.Goals as goal

pub returns : goal.returns
returns g c = still_usable c.args.store.now c.image.new.self c.requires c.image.ensures.unchanged
