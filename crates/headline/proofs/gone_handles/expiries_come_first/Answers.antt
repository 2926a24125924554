use Rattle.headline.proofs.PlainChanges.{expiries_come_first}
use Rattle.headline.proofs.gone_handles.expiries_come_first.Goals as goal

pub returns : goal.returns
returns c = expiries_come_first
