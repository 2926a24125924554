use Rattle.std.proofs.Common.{refl}
use Rattle.shell.proofs.Running.{runs_on_new, stops_on_new}
use Rattle.shell.proofs.run.run_script_in_region.Goals as goal

pub returns-clause-runs : goal.returns-clause-runs
returns-clause-runs g c = runs_on_new _ _ (record { steps = λ old new e answer s. s; rebases = λ old new moment s. s; drops = λ old new s. s; message = λ c number. refl }) _ c.in-Ok-new_cell.cell c.in-Ok-new_cell.ensures.new c.in-Ok-new_cell.ensures.range _ c.new-simulator.ensures _ _ _ _ c.run_lines.result c.run_lines.ensures.runs

pub returns-clause-stops : goal.returns-clause-stops
returns-clause-stops g c = stops_on_new _ _ (record { steps = λ old new e answer s. s; rebases = λ old new moment s. s; drops = λ old new s. s; message = λ c number. refl }) _ c.in-Ok-new_cell.cell c.in-Ok-new_cell.ensures.new c.in-Ok-new_cell.ensures.range _ c.new-simulator.ensures _ _ _ _ c.run_lines.result c.run_lines.ensures.stops
