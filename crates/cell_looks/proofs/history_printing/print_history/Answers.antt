use Rattle.std.proofs.Common.{◌≡◌, [], sym, subst, rules}
use Rattle.std.specs.Prelude.{Contains}
use Rattle.std.specs.Io.KnownBytes.{Appends}
use Rattle.cell_journal.specs.Identity.{Closed}
use Rattle.cell_journal.specs.WholeHistories.{whole_of}
use Rattle.cell_seats.specs.Journals.{all_in}
use Rattle.cell_looks.proofs.Handing.{handed_on}
use Rattle.cell_looks.specs.declared.history_fault.HistoryFault.TheVariants.{NoMemory}
use Rattle.cell_looks.proofs.Behind.{each_of, popped_one, popped_are}
use Rattle.cell_looks.specs.HistoryLines.{history_lines}
use Rattle.cell_looks.proofs.PrintedHistories.{none_printed, one_printed, whole_printed, fault_of_one}
use Rattle.cell_looks.proofs.history_printing.print_history.Goals as goal

pub loop-earliest-init : goal.loop-earliest-init
loop-earliest-init g c = record {
  printed = none_printed _ _ c.args.journal.now c.in_ok-left.ensures.all c.in_ok-left.ensures.behind;
  are = each_of (λ j. j.now.now) c.in_ok-left.left.items (all_in c.args.journal.now) c.in_ok-left.ensures.all;
}

pub loop-earliest-preserved : goal.loop-earliest-preserved
loop-earliest-preserved g c =
    let was = c.loop-earliest.invariant in
    let left = c.loop-earliest.left.items in
    let one = popped_one left c.pop.new.self.items c.pop.result c.in-Some.earliest c.pop.ensures.items c.in-Some.is in
    let a = g.W.Write.contents c.args.writer.now in
    let b = g.W.Write.contents c.loop-earliest.writer in
    let d = g.W.Write.contents c.print_entries.new.writer in
    let printed = subst (λ (j : Closed). Appends b d (history_lines j.entries)) c.history.ensures.history c.in_ok-print_entries.ensures.printed in
    record {
      printed = one_printed (λ j. j.now.now) a b d left c.pop.new.self.items c.in-Some.earliest (history_lines (whole_of c.args.journal.now.now)) one printed was.printed;
      are = (popped_are (λ j. Contains (all_in c.args.journal.now) j.now.now) left c.pop.new.self.items c.in-Some.earliest one was.are).0;
    }

pub returns-in_err-print_entries-clause-fault : goal.returns-in_err-print_entries-clause-fault
returns-in_err-print_entries-clause-fault g c =
    let was = c.loop-earliest.invariant in
    let left = c.loop-earliest.left.items in
    let one = popped_one left c.pop.new.self.items c.pop.result c.in-Some.earliest c.pop.ensures.items c.in-Some.is in
    let there = (popped_are (λ j. Contains (all_in c.args.journal.now) j.now.now) left c.pop.new.self.items c.in-Some.earliest one was.are).1 in
    handed_on c.from_residual-in_err-print_entries.result _ c.in_err-print_entries.field-0.0 c.from_residual-in_err-print_entries.ensures.1
    (fault_of_one c.args.journal.now c.history.result.now c.in_err-print_entries.field-0.0 (subst (λ (j : Closed). Contains (all_in c.args.journal.now) j) (sym c.history.ensures.history) there) c.in_err-print_entries.ensures.fault)

pub returns-in_err-left-clause-fault : goal.returns-in_err-left-clause-fault
returns-in_err-left-clause-fault g c = handed_on c.from_residual.result _ NoMemory c.from_residual.ensures.1 tt

pub returns-clause-printed : goal.returns-clause-printed
returns-clause-printed g c =
    let none : c.loop-earliest.left.items ≡ [] = search rules in
    whole_printed (λ j. j.now.now) _ _ c.loop-earliest.left.items (history_lines (whole_of c.args.journal.now.now)) none c.loop-earliest.invariant.printed
