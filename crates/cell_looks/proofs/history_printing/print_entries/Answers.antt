use Rattle.std.proofs.Common.{◌<◌, ◌≤◌, length, sym, ap, ◌∙◌, arith}
use Rattle.std.specs.Option.{option_copied}
use Rattle.cell_journal.proofs.Retained.{entry_is}
use Rattle.cell_looks.proofs.Handing.{handed_on}
use Rattle.cell_looks.proofs.Noted.{was_gone}
use Rattle.cell_looks.proofs.Appending.{appends_none}
use Rattle.cell_looks.proofs.PrintedHistories.{next_printed, all_printed}
use Rattle.cell_looks.proofs.history_printing.print_entries.Goals as goal

pub loop-place-init : goal.loop-place-init
loop-place-init g c = appends_none _

pub loop-place-preserved : goal.loop-place-preserved
loop-place-preserved g c =
    let j = c.args.history.now in
    let e = c.in-Some.entry.now in
    let at = entry_is j.cell.retention j.entries c.loop-place.place e (sym c.event.ensures ∙ ap option_copied c.in-Some.is) in
    next_printed _ _ _ j.entries c.loop-place.place e at c.loop-place.invariant c.in_ok-print_entry.ensures.printed

pub returns-in_default-clause-fault : goal.returns-in_default-clause-fault
returns-in_default-clause-fault g c = λ _.
    let j = c.args.history.now in
    let within : c.loop-place.place < length j.entries = omega (arith, c.loop-place-test.true, c.len-place-end.ensures) in
    was_gone j.cell.retention j.entries c.loop-place.place within (sym (ap option_copied c.in_default.is) ∙ c.event.ensures)

pub returns-clause-printed : goal.returns-clause-printed
returns-clause-printed g c =
    let j = c.args.history.now in
    let past : length j.entries ≤ c.loop-place.place = omega (arith, c.loop-place-test.false, c.len-place-end.ensures) in
    all_printed _ _ j.entries c.loop-place.place past c.loop-place.invariant

pub returns-in_err-print_entry-clause-fault : goal.returns-in_err-print_entry-clause-fault
returns-in_err-print_entry-clause-fault g c =
    handed_on c.from_residual.result _ c.in_err-print_entry.field-0.0 c.from_residual.ensures.1 (λ is. absurd (c.in_err-print_entry.ensures.fault is))
