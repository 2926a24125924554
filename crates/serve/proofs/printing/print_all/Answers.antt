use Rattle.std.proofs.Common.{◌∙◌, refl}
use Rattle.script.proofs.Bytes.{keeps_all}
use Rattle.serve.proofs.Prints.{prints_none, prints_more, order_kept}
use Rattle.serve.proofs.printing.print_all.Goals as goal

pub loop-init : goal.loop-init
loop-init g c =
    let at = g.W.Write.contents c.args.writer.now in
    record { order = c.requires; cell = refl; prints = prints_none c.args.printed.now at at (keeps_all at) }

pub loop-preserved : goal.loop-preserved
loop-preserved g c =
    let was = c.loop.printed in
    let first = g.W.Write.contents c.args.writer.now in
    let before = g.W.Write.contents c.loop.writer in
    let flushed = g.W.Write.contents c.next_told.new.writer in
    let after = g.W.Write.contents c.obey.new.writer in
    let one = c.in_ok-obey.ensures.printed in
    let so_far = prints_more c.args.printed.now was was first before flushed c.loop.invariant.prints (prints_none was before flushed c.in_ok-found.ensures.keeps) in
    record {
      order = order_kept was c.obey.new.printed flushed after one c.loop.invariant.order;
      cell = c.obey.ensures.cell ∙ c.loop.invariant.cell;
      prints = prints_more c.args.printed.now was c.obey.new.printed first flushed after so_far one;
    }

pub returns-in_default-clause-printed : goal.returns-in_default-clause-printed
returns-in_default-clause-printed g c =
    let was = c.loop.printed in
    let first = g.W.Write.contents c.args.writer.now in
    let before = g.W.Write.contents c.loop.writer in
    let flushed = g.W.Write.contents c.next_told.new.writer in
    prints_more c.args.printed.now was was first before flushed c.loop.invariant.prints (prints_none was before flushed c.in_ok-found.ensures.keeps)

pub returns-in_err-obey-clause-cell : goal.returns-in_err-obey-clause-cell
returns-in_err-obey-clause-cell g c = c.obey.ensures.cell ∙ c.loop.invariant.cell
