use Rattle.std.proofs.Common.{ℕ, sym, ap, ◌∙◌}
use Rattle.cell_journal.specs.Clocks.{are_clocks_kept}
use Rattle.cell_journal.specs.Identity.{Closed}
use Rattle.cell_journal.specs.WholeHistories.{whole_of}
use Rattle.cell_nodes.specs.Nodes.{names_of}
use Rattle.cell_run.proofs.Parking.{parked_parts, parked_so}
use Rattle.cell_run.proofs.park.park_cell.Goals as goal

pub parked_with-requires-clause-parts : goal.parked_with-requires-clause-parts
parked_with-requires-clause-parts g c =
    let of = c.args.cell.registry.writer.me.0.of in
    let history = c.park_history-history.ensures in
    let names = c.requires.names ∙ ap (λ (n : ℕ). names_of of n) (sym history.same.1) in
    parked_parts _ _ _ _ _ _ _ _ _ _ history.parked history.beside (sym c.are_clocks_kept-kept.ensures ∙ c.if-kept.true) history.sent names c.requires.seen c.requires.named c.requires.saw

pub returns-then-kept-clause-parked : goal.returns-then-kept-clause-parked
returns-then-kept-clause-parked g c = parked_so _ _ _ _ _ _ _ c.park_history-history.ensures.parked c.parked_with.ensures c.park_history-history.ensures.same.0

pub returns-else-kept-clause-closed : goal.returns-else-kept-clause-closed
returns-else-kept-clause-closed g c =
    let over = c.journal_over.ensures in
    let kept = ap (λ (j : Closed). are_clocks_kept j.cell (whole_of j)) over ∙ (sym c.are_clocks_kept-kept.ensures ∙ c.if-kept.false) in
    (ap (λ (j : Closed). j.cell) over ∙ c.park_history-history.ensures.parked.cell_is, ap (λ (j : Closed). j.is_over) over, c.seats_of.ensures, kept)
