use Rattle.laws_machine.proofs.FittingSizes.{granted_sizes_fit_the_settings}
use Rattle.laws_machine.proofs.told_rounds.granted_sizes_fit_the_settings.Goals as goal

pub returns : goal.returns
returns c = granted_sizes_fit_the_settings
