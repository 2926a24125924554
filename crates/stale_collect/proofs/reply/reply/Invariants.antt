use Rattle.std.proofs.Common.{◌≡◌, ◌++◌, drop}
use Rattle.stale_collect.specs.Drops.{useless_drops}
use Rattle.stale_collect.proofs.reply.reply.Given as goal

abbrev pub invariant-loop-line : goal.invariant-loop-line
invariant-loop-line l = l.drops.items ++ useless_drops l.table.table (drop l.line-index l.report) ≡ useless_drops l.table.table l.report
