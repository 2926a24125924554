-- A chunk that is asked for, as it stands in the table.
use Rattle.std.specs.Prelude.{◌≡◌, ℕ, Some, IsTrue}
use Rattle.chunk_table.specs.ChunkTable.{ChunkRow, handles_of, chunk_of}
use Rattle.leases.specs.LeaseEnds.{has_ended}
use Rattle.protocol.specs.Tables.{element_at}
use Rattle.master_plan.specs.Plans.{PlanState}

-- It stands at this index of the file's list.
abbrev pub IsListed : PlanState → ℕ → ℕ → ℕ → Type 0
IsListed p file index handle = element_at (handles_of p.logged.table file) index ≡ Some handle

-- It stands there, the table keeps this of it, and its lease has ended.
pub record IsOwn (p : PlanState) (file index handle : ℕ) (row : ChunkRow) : Type 0 where
  pub listed : IsListed p file index handle
  pub stands : chunk_of p.logged.table handle ≡ Some row
  pub ended : IsTrue (has_ended row p.now)
