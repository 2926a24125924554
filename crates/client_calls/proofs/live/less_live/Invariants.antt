use Rattle.std.proofs.Common.{◌≡◌, filter, take}
use Rattle.protocol.specs.ClientTakes.{is_kept_beside}
use Rattle.client_calls.proofs.live.less_live.Given as goal

abbrev pub invariant-loop-attempt : goal.invariant-loop-attempt
invariant-loop-attempt l = l.left ≡ filter (is_kept_beside l.chunk) (take l.attempt-index l.live)
