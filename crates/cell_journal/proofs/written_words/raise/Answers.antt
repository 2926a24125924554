use Rattle.std.proofs.Common.{ap, arith, ◌+◌, ◌%◌, ◌^◌}
use Rattle.std.specs.Prelude.{slice_index}
use Rattle.cell_journal.proofs.Stepping.{raises_step, still_writes, still_as_many}
use Rattle.cell_journal.proofs.written_words.raise.Goals as goal

pub fetch_add-requires : goal.fetch_add-requires
fetch_add-requires c =
    let w = c.requires.writer in
    let p = c.args.writer.now in
    (w.here, omega (arith, w.count, c.requires.place), raises_step c.args.table.now.shared.table_id.slots p.id c.args.place p.me.0 p.me.1)

pub returns-clause-writer : goal.returns-clause-writer
returns-clause-writer c =
    let p = c.args.writer.now in
    still_writes c.args.table.now.shared.table_id p.table_id c.fetch_add.new.seat.table_id p.me c.fetch_add.new.seat.me c.args.place ((slice_index p.me.0 c.args.place + 1) % 2 ^ 64) c.requires.writer c.fetch_add.ensures.0 c.fetch_add.ensures.2

pub returns-clause-count : goal.returns-clause-count
returns-clause-count c =
    let p = c.args.writer.now in
    still_as_many p.me c.fetch_add.new.seat.me c.args.place ((slice_index p.me.0 c.args.place + 1) % 2 ^ 64) c.fetch_add.ensures.2

pub returns-clause-words : goal.returns-clause-words
returns-clause-words c = ap (λ m. m.0) c.fetch_add.ensures.2
