use Rattle.std.proofs.Common.{subst}
use Rattle.std.specs.Prelude.{IfOk}
use Rattle.cell_journal.specs.Identity.{Identity}
use Rattle.cell_run.specs.Resumed.{HasRoom}
use Rattle.cell_run.proofs.behind.memory_for.Goals as goal

pub returns-clause-room : goal.returns-clause-room
returns-clause-room c = subst (λ (i : Identity). IfOk c.resume_memory.result (λ m. HasRoom i c.args.parts.now m.room)) c.cell-cell.ensures.cell c.resume_memory.ensures.room
