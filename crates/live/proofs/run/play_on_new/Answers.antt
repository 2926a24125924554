use Rattle.std.proofs.Common.{◌∙◌, List, sym, ap}
use Rattle.std.specs.Prelude.{slice_get}
use Rattle.live.specs.declared.play.Player.{Player}
use Rattle.live.proofs.Players.{told_so, still_of}
use Rattle.live.proofs.run.play_on_new.Goals as goal

pub agree_all-requires-clause-cell : goal.agree_all-requires-clause-cell
agree_all-requires-clause-cell g c = λ k p at.
    let here = ap (λ (l : List Player). slice_get l k) (sym c.as_slice.ensures.value) ∙ at in
    (c.in_ok-cell-2.ensures.players k p here).cell_is ∙ sym c.in_ok-ended.ensures.cell

pub returns-clause-answers : goal.returns-clause-answers
returns-clause-answers g c =
    let options = c.args.options.now in
    let first = c.in_ok-cell.cell.of in
    let last = c.in_ok-cell-2.cell.of in
    told_so options last c.in_ok-ended.ended.journal.now c.args.lines.now c.in_ok-cell-2.players.items
    (still_of options.config options.servers first last c.in_ok-cell-2.ensures.cell c.in_ok-cell.ensures.cell.0) c.in_ok-cell-2.ensures.count c.in_ok-cell-2.ensures.players c.in_ok-cell-2.ensures.lacked
    c.in_ok-ended.ensures.cell (λ k p at. c.agree_all.ensures k p (ap (λ (l : List Player). slice_get l k) c.as_slice.ensures.value ∙ at))
