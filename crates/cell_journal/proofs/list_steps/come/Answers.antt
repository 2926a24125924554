use Rattle.std.proofs.Common.{sym, ◌∙◌, ap}
use Rattle.cell_journal.specs.declared.note.Note.TheVariants.{Fresh}
use Rattle.cell_journal.proofs.Moving.{come_moves}
use Rattle.cell_journal.proofs.list_steps.come.Goals as goal

pub compare_exchange-found-requires : goal.compare_exchange-found-requires
compare_exchange-found-requires g c =
    let h = c.requires in
    let offer = c.plain-offer.ensures in
    let pen = c.no_pen-pen.ensures in (
      ap (λ w. w.tracked) h,
      sym (ap (λ w. w.book) h),
      pen.0 ∙ sym (ap (λ w. w.book) h),
      offer.0,
      rw (ap (λ w. w.key) h, pen.1, offer.3) (come_moves c.args.seen.now.log (Fresh 0)),
    )
