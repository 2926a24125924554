use Rattle.std.proofs.Common.{◌-◌, ◌≤◌}
use Rattle.std.specs.Prelude.{replicate}
use Rattle.live.specs.Playing.{IsSamePlayer, PlaysOn}
use Rattle.live.proofs.play.Player.repeat.Given as goal

-- so many calls were made
abbrev pub invariant-loop-made : goal.invariant-loop-made
invariant-loop-made g l = record {
  within : l.made ≤ l.times;
  same : IsSamePlayer l.fn.self l.self;
  played : PlaysOn l.fn.self l.self (replicate l.made l.fn.call);
}

abbrev pub decreases-loop-made : goal.decreases-loop-made
decreases-loop-made g l = l.times - l.made
