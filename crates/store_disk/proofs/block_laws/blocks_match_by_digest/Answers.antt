use Rattle.store_disk.proofs.Runs.{run_is, touched_is}
use Rattle.store_disk.proofs.block_laws.blocks_match_by_digest.Goals as goal

pub returns-clause-run : goal.returns-clause-run
returns-clause-run c = run_is

pub returns-clause-touched : goal.returns-clause-touched
returns-clause-touched c = touched_is
