use Rattle.primary_order.proofs.Successes.{every_member}
use Rattle.primary_order.proofs.laws.success_needs_every_member.Goals as goal

pub returns : goal.returns
returns c = every_member
