use Rattle.std.proofs.Common.{ap, arith}
use Rattle.cell_journal.proofs.Stepping.{writes_step, still_writes, still_as_many}
use Rattle.cell_journal.proofs.written_words.write.Goals as goal

pub store-requires : goal.store-requires
store-requires c =
    let w = c.requires.writer in
    let p = c.args.writer.now in
    (w.here, omega (arith, w.count, c.requires.place), writes_step c.args.table.now.shared.table_id.slots p.id c.args.place c.args.word p.me.0 p.me.1)

pub returns-clause-writer : goal.returns-clause-writer
returns-clause-writer c =
    let p = c.args.writer.now in
    still_writes c.args.table.now.shared.table_id p.table_id c.store.new.seat.table_id p.me c.store.new.seat.me c.args.place c.args.word c.requires.writer c.store.ensures.0 c.store.ensures.2

pub returns-clause-count : goal.returns-clause-count
returns-clause-count c =
    let p = c.args.writer.now in
    still_as_many p.me c.store.new.seat.me c.args.place c.args.word c.store.ensures.2

pub returns-clause-words : goal.returns-clause-words
returns-clause-words c = ap (λ m. m.0) c.store.ensures.2
