use Rattle.std.proofs.Common.{◌≡◌, drop}
use Rattle.stale_collect.specs.Expiry.{number_from}
use Rattle.stale_collect.proofs.expired.number_in.Given as goal

abbrev pub invariant-loop-digit : goal.invariant-loop-digit
invariant-loop-digit l = number_from l.number (drop l.digit-index l.digits) ≡ number_from 0 l.digits
