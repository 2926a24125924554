use Rattle.std.proofs.Common.{◌≡◌, ◌-◌, length, drop}
use Rattle.master_plan.specs.Reports.{table_of_lines}
use Rattle.master_plan.proofs.reports.table_of_lines.Given as goal

-- the lines behind are in the table
abbrev pub invariant-loop-back : goal.invariant-loop-back
invariant-loop-back l = l.held ≡ table_of_lines (drop (length l.replicas - l.back) l.replicas)
