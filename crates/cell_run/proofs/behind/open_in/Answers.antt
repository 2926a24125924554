use Rattle.std.proofs.Common.{sym, subst}
use Rattle.cell_seats.specs.Controls.{WritesControls}
use Rattle.cell_seats.specs.declared.controls.Controls.{Controls}
use Rattle.cell_run.proofs.behind.open_in.Goals as goal

pub returns-in-Ok-clause-asks : goal.returns-in-Ok-clause-asks
returns-in-Ok-clause-asks g c = subst (λ (x : Controls). WritesControls x c.args.memory.room.control_writer) (sym c.in-Ok.ensures.controls) c.requires.asks
