use Rattle.std.proofs.Common.{◌∙◌}
use Rattle.primary_order.proofs.Attempts.{known_by_attempt}
use Rattle.primary_order.proofs.primary.Primary.known.Goals as goal

pub returns-clause-attempt : goal.returns-clause-attempt
returns-clause-attempt c = c.known_by_last.ensures ∙ known_by_attempt c.args.self.now c.args.client c.args.seq
