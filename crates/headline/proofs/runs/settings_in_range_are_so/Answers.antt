use Rattle.headline.proofs.SettingsInRange.{settings_in_range_are_so}
use Rattle.headline.proofs.runs.settings_in_range_are_so.Goals as goal

pub returns : goal.returns
returns c = settings_in_range_are_so
