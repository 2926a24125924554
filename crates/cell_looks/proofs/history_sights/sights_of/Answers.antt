use Rattle.std.proofs.Common.{◌≡◌, ◌++◌, [], map, sym, ap, subst, ◌∙◌, rules}
use Rattle.std.specs.Prelude.{Contains}
use Rattle.cell_journal.specs.Identity.{Closed}
use Rattle.cell_journal.specs.WholeHistories.{whole_of}
use Rattle.cell_seats.specs.Journals.{all_in}
use Rattle.cell_world.specs.Kept.{blank_seen}
use Rattle.cell_looks.specs.Noted.{noted_in}
use Rattle.cell_looks.specs.declared.look_fault.LookFault.TheVariants.{NoMemory}
use Rattle.cell_looks.proofs.Handing.{handed_on}
use Rattle.cell_looks.proofs.Behind.{each_of, popped_one, popped_are}
use Rattle.cell_looks.proofs.Noted.{first_noted, note_first, last_noted, fault_of_one}
use Rattle.cell_looks.proofs.history_sights.sights_of.Goals as goal

pub loop-earliest-init : goal.loop-earliest-init
loop-earliest-init c = record {
  seen = first_noted (λ j. j.now.now) c.in_ok-left.left.items c.new-sights.result.seen c.args.journal.now c.new-sights.ensures.seen c.in_ok-left.ensures.all c.in_ok-left.ensures.behind;
  room = c.new-sights.ensures.room;
  are = each_of (λ j. j.now.now) c.in_ok-left.left.items (all_in c.args.journal.now) c.in_ok-left.ensures.all;
}

pub loop-earliest-preserved : goal.loop-earliest-preserved
loop-earliest-preserved c =
    let was = c.loop-earliest.invariant in
    let left = c.loop-earliest.left.items in
    let one = popped_one left c.pop.new.self.items c.pop.result c.in-Some.earliest c.pop.ensures.items c.in-Some.is in
    let seen = c.loop-earliest.sights.seen in
    let same = c.in_ok-note_all.ensures.seen ∙ ap (λ (j : Closed). seen ++ map blank_seen (noted_in j.entries)) c.history.ensures.history in
    record {
      seen = note_first (λ j. j.now.now) left c.pop.new.self.items c.in-Some.earliest seen c.note_all.new.sights.seen (map blank_seen (noted_in (whole_of c.args.journal.now.now))) one same was.seen;
      room = c.in_ok-note_all.ensures.room;
      are = (popped_are (λ j. Contains (all_in c.args.journal.now) j.now.now) left c.pop.new.self.items c.in-Some.earliest one was.are).0;
    }

pub returns-in_err-note_all-clause-fault : goal.returns-in_err-note_all-clause-fault
returns-in_err-note_all-clause-fault c =
    let was = c.loop-earliest.invariant in
    let left = c.loop-earliest.left.items in
    let one = popped_one left c.pop.new.self.items c.pop.result c.in-Some.earliest c.pop.ensures.items c.in-Some.is in
    let there = (popped_are (λ j. Contains (all_in c.args.journal.now) j.now.now) left c.pop.new.self.items c.in-Some.earliest one was.are).1 in
    handed_on c.from_residual-in_err-note_all.result _ c.in_err-note_all.field-0.0 c.from_residual-in_err-note_all.ensures.1
    (fault_of_one c.args.journal.now c.history.result.now c.in_err-note_all.field-0.0 (subst (λ (j : Closed). Contains (all_in c.args.journal.now) j) (sym c.history.ensures.history) there) c.in_err-note_all.ensures.fault)

pub returns-in_err-left-clause-fault : goal.returns-in_err-left-clause-fault
returns-in_err-left-clause-fault c = handed_on c.from_residual.result _ NoMemory c.from_residual.ensures.1 tt

pub returns-clause-seen : goal.returns-clause-seen
returns-clause-seen c =
    let none : c.loop-earliest.left.items ≡ [] = search rules in
    last_noted (λ j. j.now.now) c.loop-earliest.left.items c.loop-earliest.sights.seen (map blank_seen (noted_in (whole_of c.args.journal.now.now))) none c.loop-earliest.invariant.seen
