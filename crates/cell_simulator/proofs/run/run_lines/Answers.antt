use Rattle.std.proofs.Common.{arith}
use Rattle.cell_simulator.proofs.LineLemmas.{lines_none, lines_on, lines_end}
use Rattle.cell_simulator.proofs.StopLemmas.{handed_on, stops_on_line, stops_reading, stops_last}
use Rattle.cell_simulator.proofs.run.run_lines.Goals as goal

pub loop-number-init : goal.loop-number-init
loop-number-init g c = lines_none _ _ _ _

pub loop-number-preserved : goal.loop-number-preserved
loop-number-preserved g c = lines_on _ _ _ _ _ _ _ _ _ _ _ c.read_line.new.line.items _ _ c.in-Ok-true.field-0-test c.as_slice.ensures.value c.loop-number.invariant c.in-Ok-true.ensures c.in_ok-run_line-in-Ok-true.ensures.runs

pub returns-in-Ok-false-clause-runs : goal.returns-in-Ok-false-clause-runs
returns-in-Ok-false-clause-runs g c = lines_end _ _ _ _ _ _ _ _ _ c.read_line.new.line.items _ c.in-Ok-false.field-0-test c.loop-number.invariant c.in-Ok-false.ensures

pub returns-in_err-run_line-in-Ok-true-clause-stops : goal.returns-in_err-run_line-in-Ok-true-clause-stops
returns-in_err-run_line-in-Ok-true-clause-stops g c =
    handed_on c.from_residual.result _ c.in_err-run_line-in-Ok-true.field-0.0 c.from_residual.ensures.1
    (stops_on_line _ _ _ _ _ _ _ _ _ _ c.read_line.new.line.items _ _ _ c.in-Ok-true.field-0-test c.as_slice.ensures.value c.loop-number.invariant c.in-Ok-true.ensures c.in_err-run_line-in-Ok-true.ensures.stops)

pub returns-in-Err-clause-stops : goal.returns-in-Err-clause-stops
returns-in-Err-clause-stops g c = stops_reading _ _ _ _ _ _ _ _ _ c.of_read.ensures.either c.loop-number.invariant

pub returns-clause-stops : goal.returns-clause-stops
returns-clause-stops g c = stops_last _ _ _ _ _ _ _ c.loop-number.number (omega (arith, c.loop-number.auto, c.loop-number-test.false)) c.loop-number.invariant
