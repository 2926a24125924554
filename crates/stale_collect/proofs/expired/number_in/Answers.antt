use Rattle.std.proofs.Common.{arith}
use Rattle.stale_collect.proofs.Digits.{past_all}
use Rattle.stale_collect.proofs.expired.number_in.Goals as goal

pub returns-in_default : goal.returns-in_default
returns-in_default c = past_all c.loop-digit.number 18446744073709551616 c.args.digits.now c.loop-digit.digit-index (omega arith) c.in_default.ensures c.loop-digit.invariant
