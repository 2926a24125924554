use Rattle.std.proofs.Common.{ap, ◌∙◌}
use Rattle.std.specs.Option.{option_copied}
use Rattle.master_plan.specs.Changes.{changes_of}
use Rattle.master_cell.specs.Copies.{copies_of}
use Rattle.master_cell.specs.Shown.{shown_in}
use Rattle.master_cell.specs.Files.{files_after}
use Rattle.master_cell.specs.Inputs.{input_of}
use Rattle.master_cell.proofs.Drafting.{lists_shown}
use Rattle.master_cell.proofs.drafted.drafts.Goals as goal

pub returns-clause-copies : goal.returns-clause-copies
returns-clause-copies g c =
    let before = c.in_ok-before.before in
    let after = c.state-2.result.now in
    lists_shown (g.L.OperationLog.disk c.args.log.now) c.args.plan.now c.plan_step.new.plan c.take_changes-changes.new.self c.args.now.0 (input_of (option_copied c.args.message)) (changes_of c.take_changes-changes.result)
    c.in_ok-plan_step.ensures c.take_changes-changes.ensures.changes c.take_changes-changes.ensures.rest
    c.state.result.now after c.state.ensures c.state-2.ensures before.next_file before.copies c.in_ok-before.ensures c.changed.ensures.sound
    (shown_in c.settle.new.self) (c.settle.ensures.shown ∙ c.requires.shown) c.in_ok-copies.copies.items
    (c.in_ok-copies.ensures.copies ∙ ap (λ cs. copies_of after.table (files_after before.next_file before.copies after.next_file (changes_of cs))) c.as_slice.ensures)
