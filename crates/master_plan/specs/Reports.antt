-- What servers tell the master.
use Rattle.std.specs.Prelude.{ℕ, List, map}
use Rattle.std.specs.FinMap as table
use Rattle.messages.specs.declared.message.ReplicaLine.{ReplicaLine}
use Rattle.protocol.specs.Tables.{Table}
use Rattle.protocol.specs.Master.{held_by}
use Rattle.master_plan.specs.Plans.{PlanState, known}

-- a server holds this version
abbrev pub with_holder : PlanState → ℕ → ℕ → ℕ → PlanState
with_holder p server handle version = record p { holders = table.insert p.holders server (table.insert (held_by (known p) server) handle version) }

-- the versions of reported replicas by handle
abbrev pub table_of_lines : List ReplicaLine → Table ℕ
table_of_lines replicas = table.from_entries (map (λ line. (line.handle.0, line.version.0)) replicas)

-- a server is present, and holds what it reports and nothing else
abbrev pub with_report : PlanState → ℕ → List ReplicaLine → PlanState
with_report p server replicas = record p { reported = table.insert p.reported server p.now; holders = table.insert p.holders server (table_of_lines replicas) }
