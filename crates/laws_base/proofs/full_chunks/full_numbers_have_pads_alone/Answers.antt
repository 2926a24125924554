use Rattle.laws_base.proofs.FullChunks.{full_numbers_have_pads_alone}
use Rattle.laws_base.proofs.full_chunks.full_numbers_have_pads_alone.Goals as goal

pub returns : goal.returns
returns c = full_numbers_have_pads_alone
