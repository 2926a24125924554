use Rattle.relaxed_file.proofs.Effects.{refused_calls_had_no_effect}
use Rattle.relaxed_file.proofs.laws.refused_calls_had_no_effect.Goals as goal

pub returns : goal.returns
returns c = refused_calls_had_no_effect
