use Rattle.std.proofs.Common.{get_or, sym, arith}
use Rattle.std.proofs.lemmas.Option.{slice_get-get_or}
use Rattle.serve.specs.Printing.{Stand}
use Rattle.serve.proofs.Prints.{prints_answer}
use Rattle.serve.proofs.printing.print_reply.Goals as goal

pub keep-requires : goal.keep-requires
keep-requires g c = c.is_followed_by.ensures c.if-not-is_followed_by.false

pub returns-clause-printed : goal.returns-clause-printed
returns-clause-printed g c =
    let stands = c.args.printed.now in
    let place = c.in-Some.place in
    let any = c.index-printed-place.result in
    let old : Stand = get_or stands place any in
    let next = c.is_followed_by.ensures c.if-not-is_followed_by.false in
    prints_answer stands place c.args.reply.client old c.keep.new.self c.args.reply.answer (g.W.Write.contents c.args.writer.now) (g.W.Write.contents c.print_answer.new.writer) c.requires
    (slice_get-get_or stands place any (omega (arith, c.in-Some.ensures.place.0))) (sym next.client) c.keep.ensures.client c.keep.ensures.answers c.in_ok-print_answer.ensures.printed
