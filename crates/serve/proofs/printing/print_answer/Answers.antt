use Rattle.std.proofs.Common.{subst}
use Rattle.std.specs.Prelude.{OnOk}
use Rattle.std.specs.Io.KnownBytes.{Appends}
use Rattle.cell_looks.specs.ToldLines.{told_line}
use Rattle.serve.specs.Messages.{Replied}
use Rattle.serve.proofs.printing.print_answer.Goals as goal

pub returns-clause-printed : goal.returns-clause-printed
returns-clause-printed g c =
    subst (λ (r : Replied). OnOk c.print_line.result (Appends (g.W.Write.contents c.args.writer.now) (g.W.Write.contents c.print_line.new.writer) (told_line r.client r.answer))) c.reply.view_is c.print_line.ensures.printed
