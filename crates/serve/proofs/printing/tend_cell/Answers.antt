use Rattle.std.proofs.Common.{ap}
use Rattle.std.proofs.lemmas.Result.{on_ok_weaker}
use Rattle.cell_run.specs.Cells.{CellState}
use Rattle.script.proofs.Bytes.{keeps_all}
use Rattle.serve.proofs.Prints.{prints_none, prints_room}
use Rattle.serve.proofs.printing.tend_cell.Goals as goal

pub returns-in-Answered-clause-printed : goal.returns-in-Answered-clause-printed
returns-in-Answered-clause-printed g c = λ stands. let at = g.W.Write.contents c.args.writer.now in prints_none stands at at (keeps_all at)

pub returns-in-Room-clause-printed : goal.returns-in-Room-clause-printed
returns-in-Room-clause-printed g c =
    on_ok_weaker c.print_room.result (λ told stands. prints_room stands (g.W.Write.contents c.args.writer.now) (g.W.Write.contents c.print_room.new.writer) c.room.result told) c.print_room.ensures.printed

pub returns-in-Restart-clause-cell : goal.returns-in-Restart-clause-cell
returns-in-Restart-clause-cell g c = ap (λ (s : CellState). s.of) c.restart.ensures

pub returns-in-Restart-clause-printed : goal.returns-in-Restart-clause-printed
returns-in-Restart-clause-printed g c = λ stands. let at = g.W.Write.contents c.args.writer.now in prints_none stands at at (keeps_all at)

pub returns-in-Net-clause-cell : goal.returns-in-Net-clause-cell
returns-in-Net-clause-cell g c = ap (λ (s : CellState). s.of) c.net.ensures

pub returns-in-Net-clause-printed : goal.returns-in-Net-clause-printed
returns-in-Net-clause-printed g c = λ stands. let at = g.W.Write.contents c.args.writer.now in prints_none stands at at (keeps_all at)
