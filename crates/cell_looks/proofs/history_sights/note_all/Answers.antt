use Rattle.std.proofs.Common.{◌<◌, ◌≤◌, length, sym, ap, ◌∙◌, arith}
use Rattle.std.specs.Option.{option_copied}
use Rattle.cell_journal.proofs.Retained.{entry_is}
use Rattle.cell_looks.proofs.Noted.{note_more, was_gone, none_left}
use Rattle.cell_looks.specs.declared.look_fault.LookFault.TheVariants.{NoMemory}
use Rattle.cell_looks.proofs.Handing.{handed_on}
use Rattle.cell_looks.proofs.history_sights.note_all.Goals as goal

pub loop-place-preserved : goal.loop-place-preserved
loop-place-preserved c =
    let was = c.loop-place.invariant in
    let j = c.args.history.now in
    let e = c.in-Some.entry.now in
    let at = entry_is j.cell.retention j.entries c.loop-place.place e (sym c.event.ensures ∙ ap option_copied c.in-Some.is) in
    record {
      seen = note_more j.entries c.loop-place.place e c.loop-place.sights.seen c.note.new.sights.seen _ at c.in_ok-note.ensures.seen was.seen;
      room = c.in_ok-note.ensures.room;
    }

pub returns-in_default-clause-fault : goal.returns-in_default-clause-fault
returns-in_default-clause-fault c =
    let j = c.args.history.now in
    let within : c.loop-place.place < length j.entries = omega (arith, c.loop-place-test.true, c.len-place-end.ensures) in
    was_gone j.cell.retention j.entries c.loop-place.place within (sym (ap option_copied c.in_default.is) ∙ c.event.ensures)

pub returns-clause-seen : goal.returns-clause-seen
returns-clause-seen c =
    let j = c.args.history.now in
    let past : length j.entries ≤ c.loop-place.place = omega (arith, c.loop-place-test.false, c.len-place-end.ensures) in
    none_left j.entries c.loop-place.place c.loop-place.sights.seen _ past c.loop-place.invariant.seen

pub returns-in_err-note-clause-fault : goal.returns-in_err-note-clause-fault
returns-in_err-note-clause-fault c = handed_on c.from_residual.result _ NoMemory c.from_residual.ensures.1 tt
