use Rattle.std.proofs.Common.{sym, ◌∙◌, ap}
use Rattle.cell_journal.proofs.Moving.{end_moves}
use Rattle.cell_journal.proofs.list_steps.end.Goals as goal

pub compare_exchange-requires : goal.compare_exchange-requires
compare_exchange-requires g c =
    let b = c.requires.books in
    let offer = c.plain-offer.ensures in
    let t = c.requires.turn in (
      ap (λ w. w.tracked) b.0,
      sym (ap (λ w. w.book) b.0),
      b.1 ∙ sym (ap (λ w. w.book) b.0),
      offer.0,
      rw (ap (λ w. w.key) b.0, offer.1, offer.3) (end_moves c.args.seen.now.log c.args.pen.now.nib t.0 b.2 t.1 t.2),
    )
