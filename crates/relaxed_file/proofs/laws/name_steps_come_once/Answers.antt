use Rattle.relaxed_file.proofs.Effects.{name_steps_come_once}
use Rattle.relaxed_file.proofs.laws.name_steps_come_once.Goals as goal

pub returns : goal.returns
returns c = name_steps_come_once
