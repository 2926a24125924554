use Rattle.std.proofs.Common.{◌≡◌, true, refl, sym, ap, ◌∙◌, subst}
use Rattle.std.specs.Option.{option_copied}
use Rattle.protocol.specs.Conforms.{MasterSteps}
use Rattle.protocol.specs.Master.{MasterState}
use Rattle.protocol.specs.World.{files_seen}
use Rattle.server_cell.specs.Inputs.{input_of}
use Rattle.master_cell.specs.Inputs.{input_of as master_input}
use Rattle.master_cell.specs.Shown.{shown_in}
use Rattle.master_cell.proofs.Again.{steps_settings}
use Rattle.master_cell.proofs.Steps.{stays_down}
use Rattle.memory_nodes.specs.MasterSlots.{IsMasterOf, SlotState}
use Rattle.memory_nodes.proofs.Files.{on_input, shown_up}
use Rattle.memory_nodes.proofs.MasterSlots.{files_stay, held_is, not_held, still_of}
use Rattle.memory_nodes.proofs.master_slot.MasterSlotCellMaster.step.Goals as goal

pub step-requires-clause-shown : goal.step-requires-clause-shown
step-requires-clause-shown g c =
    let i = c.self.inside in
    subst (λ (m : MasterState). m.up ≡ true → shown_in i.files ≡ m.logged.table.files) (held_is i.config i.server_count i.master _ i.log i.before.items c.in-Some.is) c.self.invariant.4

pub returns-clause-steps : goal.returns-clause-steps
returns-clause-steps g c =
    let i = c.self.inside in
    let same = sym (held_is i.config i.server_count i.master _ i.log i.before.items c.in-Some.is) ∙ ap (λ (s : SlotState). s.state) c.self.view_is in
    on_input c.args.self.now.state c.args.now.0 (option_copied c.args.message) c.step.result.out c.step.result.seen c.step.new.self.state
    (subst (λ (m : MasterState). MasterSteps m c.args.now.0 (master_input (option_copied c.args.message)) c.step.result.out c.step.result.seen c.step.new.self.state) same c.step.ensures.steps)

pub returns-clause-files : goal.returns-clause-files
returns-clause-files g c = c.step.ensures.files ∙ ap (λ (s : SlotState). files_seen c.step.new.self.state s.files) c.self.view_is

pub invariant_of-self : goal.invariant_of-self
invariant_of-self g c = c.self.invariant

pub invariant_of-self-2 : goal.invariant_of-self-2
invariant_of-self-2 g c =
    let i = c.self.inside in
    let of = subst (IsMasterOf i.config i.server_count) (held_is i.config i.server_count i.master _ i.log i.before.items c.in-Some.is) c.self.invariant.2 in (
      c.self.invariant.0,
      c.self.invariant.1,
      still_of i.config i.server_count _ c.step.new.self.state of (steps_settings _ c.args.now.0 (master_input (option_copied c.args.message)) c.step.result.out c.step.result.seen c.step.new.self.state c.step.ensures.steps),
      tt,
      λ up. shown_up c.step.new.self.state (shown_in c.step.new.shown) (shown_in i.files) c.step.ensures.files up,
    )

pub returns-in_default-clause-steps : goal.returns-in_default-clause-steps
returns-in_default-clause-steps g c =
    let i = c.self.inside in
    let down = ap (λ (s : SlotState). s.state.up) (sym c.self.view_is) ∙ not_held i.config i.server_count i.master i.log i.before.items c.in_default.is in
    subst (λ (s : SlotState). MasterSteps c.args.self.now.state c.args.now.0 (input_of (option_copied c.args.message)) c.nothing.result.out c.nothing.result.seen s.state) (sym c.self.view_is)
    (stays_down c.args.self.now.state c.args.now.0 (input_of (option_copied c.args.message)) c.nothing.result.out c.nothing.result.seen down c.nothing.ensures.out c.nothing.ensures.seen)

pub returns-in_default-clause-files : goal.returns-in_default-clause-files
returns-in_default-clause-files g c =
    let i = c.self.inside in
    let down = ap (λ (s : SlotState). s.state.up) (sym c.self.view_is) ∙ not_held i.config i.server_count i.master i.log i.before.items c.in_default.is in
    subst (λ (s : SlotState). s.files ≡ files_seen s.state c.args.self.now.files) (sym c.self.view_is) (files_stay c.args.self.now.state c.args.self.now.files down)
